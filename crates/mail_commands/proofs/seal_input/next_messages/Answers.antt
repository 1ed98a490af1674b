use Rattle.std.proofs.Common.{◌≡◌, ◌≤◌, ◌<◌, ◌+◌, ◌*◌, ◌++◌, ℕ, List, [], ◌∷◌, length, map, refl, inl, inr, ◌∙◌, arith}
use Rattle.std.proofs.lemmas.List.{length_push, length-map, map-append}
use Rattle.std.proofs.lemmas.List.Elements.{All-push}
use Rattle.std.proofs.lemmas.Result.{err_from_is_err_and}
use Rattle.kem_mail.specs.Taken.{Lost}
use Rattle.mail_commands.specs.Input.{IsLine, IsLineText, IsMessageLines}
use Rattle.mail_commands.specs.Taken.{InputTakes, OpenTakes}
use Rattle.mail_commands.specs.private.InputParts.{behind}
use Rattle.mail_commands.specs.private.SealParts.{Tail}
use Rattle.kem_mail.specs.declared.error.MailError.TheVariants.{NoMemory, ReadFault}
use Rattle.mail_commands.specs.declared.error.RunError.TheVariants.{Place, Ended, Mail}
use Rattle.mail_commands.proofs.Inputs.{Lost_then}
use Rattle.mail_commands.proofs.SealInputs.{byte_behind, line_behind, line_taken, lines_fault, lines_memory}
use Rattle.mail_commands.proofs.seal_input.next_messages.Goals as goal

pub loop-alloc-preserved : goal.loop-alloc-preserved
loop-alloc-preserved g c =
    let left = g.S.Source.left in
    let inv = c.loop-alloc.invariant in
    let message = c.in-Ok-Some.message.items in
    let msgs : List (List ℕ) = map (λ m. m.items) c.loop-alloc.messages.items in
    let items = c.in_ok-push-in-Ok-Some.ensures.items in
    let more : c.line_len-count.result ≡ 2 * length message + 1 = rw c.deref.ensures.value at c.line_len-count.ensures in
    let line : Lost (left c.loop-alloc.src) (left c.line_or_end.new.src) (λ t. IsLine 0 65536 t message) = rw c.in-Ok-Some.field-0-is at c.in-Ok-Some.ensures.taken in
    let sized : (0 ≤ 2 * length message) × (2 * length message ≤ 65536) = rw c.in-Ok-Some.field-0-is at c.in-Ok-Some.ensures.sized in
    let pushed : map (λ m. m.items) (c.loop-alloc.messages.items ++ c.in-Ok-Some.message ∷ []) ≡ msgs ++ message ∷ [] = map-append (λ m. m.items) c.loop-alloc.messages.items (c.in-Ok-Some.message ∷ []) in
    let long = length_push c.loop-alloc.messages.items c.in-Ok-Some.message in
    record {
      taken = rw (items, pushed) (Lost_then (left c.args.src.now) (left c.loop-alloc.src) (left c.line_or_end.new.src) (λ t. IsMessageLines t msgs × (length t ≡ c.loop-alloc.count)) (λ t. IsLine 0 65536 t message) (λ t. IsMessageLines t (msgs ++ message ∷ []) × (length t ≡ c.loop-alloc.count + c.line_len-count.result))
          inv.taken line (λ a b p q. line_taken msgs a p.0 b message c.loop-alloc.count c.line_len-count.result p.1 more q));
      each = rw (items, pushed) (All-push (λ m. length m ≤ 32768) msgs message inv.each (omega (arith, sized)));
      few = rw items (omega (arith, long, c.loop-alloc.messages.ok.0, c.len.ensures, c.loop-alloc-test.true));
      short = rw items (let before = inv.short in omega (arith, long, before, more, sized));
      no_fault = c.in-Ok-Some.ensures.no_fault (λ e. cc e) ∙ inv.no_fault;
    }

pub returns-in_err-push-in-Ok-Some-clause-taken : goal.returns-in_err-push-in-Ok-Some-clause-taken
returns-in_err-push-in-Ok-Some-clause-taken g c =
    let left = g.S.Source.left in
    let inv = c.loop-alloc.invariant in
    let message = c.in-Ok-Some.message.items in
    let msgs : List (List ℕ) = map (λ m. m.items) c.loop-alloc.messages.items in
    let line : Lost (left c.loop-alloc.src) (left c.line_or_end.new.src) (λ t. IsLine 0 65536 t message) = rw c.in-Ok-Some.field-0-is at c.in-Ok-Some.ensures.taken in
    let more : c.line_len-count.result ≡ 2 * length message + 1 = rw c.deref.ensures.value at c.line_len-count.ensures in
    let count = length-map c.loop-alloc.messages.items (λ m. m.items) in
    let few : length (msgs ++ message ∷ []) ≤ 4096 = omega (arith, length_push msgs message, count, c.loop-alloc.messages.ok.0, c.len.ensures, c.loop-alloc-test.true) in
    let p = err_from_is_err_and c.from_residual.result c.from_residual.ensures.1 in
    rw (p.1, p.2)
    (Lost_then (left c.args.src.now) (left c.loop-alloc.src) (left c.line_or_end.new.src) (λ t. IsMessageLines t msgs × (length t ≡ c.loop-alloc.count)) (λ t. IsLine 0 65536 t message) (OpenTakes (Tail 4096) (Mail NoMemory))
    inv.taken line (λ a b p q. lines_memory (msgs ++ message ∷ []) (a ++ b) (line_taken msgs a p.0 b message c.loop-alloc.count c.line_len-count.result p.1 more q).0 few))

pub returns-in-Err-clause-taken : goal.returns-in-Err-clause-taken
returns-in-Err-clause-taken g c =
    let left = g.S.Source.left in
    let inv = c.loop-alloc.invariant in
    let msgs : List (List ℕ) = map (λ m. m.items) c.loop-alloc.messages.items in
    let count = length-map c.loop-alloc.messages.items (λ m. m.items) in
    let few : length msgs < 4096 = omega (arith, count, c.loop-alloc.messages.ok.0, c.len.ensures, c.loop-alloc-test.true) in
    rw c.behind_bytes.ensures
    (Lost_then (left c.args.src.now) (left c.loop-alloc.src) (left c.line_or_end.new.src) (λ t. IsMessageLines t msgs × (length t ≡ c.loop-alloc.count)) (λ t. InputTakes (IsLineText 0 65536) c.in-Err.error t × (c.in-Err.error ≡ Ended → t ≡ [] → ⊥)) (λ t. OpenTakes (Tail 4096) (behind c.loop-alloc.count c.in-Err.error) t)
    inv.taken c.in-Err.ensures.taken (λ a b p q. line_behind msgs a p.0 c.in-Err.error b c.loop-alloc.count p.1 few q))

pub returns-in-Ok-clause-taken : goal.returns-in-Ok-clause-taken
returns-in-Ok-clause-taken g c =
    let left = g.S.Source.left in
    let inv = c.loop-alloc.invariant in
    let msgs : List (List ℕ) = map (λ m. m.items) c.loop-alloc.messages.items in
    let count = length-map c.loop-alloc.messages.items (λ m. m.items) in
    let full : length msgs ≡ 4096 = (let few = inv.few in omega (arith, few, count, c.loop-alloc.messages.ok.0, c.len.ensures, c.loop-alloc-test.false)) in
    Lost_then (left c.args.src.now) (left c.loop-alloc.src) (left c.next_byte.new.src) (λ t. IsMessageLines t msgs × (length t ≡ c.loop-alloc.count)) (λ t. t ≡ c.in-Ok.field-0 ∷ []) (OpenTakes (Tail 4096) (Place c.loop-alloc.count))
    inv.taken c.in-Ok.ensures.taken (λ a b p q. byte_behind msgs a p.0 c.in-Ok.field-0 b c.loop-alloc.count p.1 full q)

pub returns-in_err-none_in_front-in-Err-next_byte-clause-taken : goal.returns-in_err-none_in_front-in-Err-next_byte-clause-taken
returns-in_err-none_in_front-in-Err-next_byte-clause-taken g c =
    let left = g.S.Source.left in
    let inv = c.loop-alloc.invariant in
    let msgs : List (List ℕ) = map (λ m. m.items) c.loop-alloc.messages.items in
    let few : length msgs ≤ 4096 = (let most = inv.few in omega (arith, most, length-map c.loop-alloc.messages.items (λ m. m.items))) in
    let p = err_from_is_err_and c.from_residual-in_err-none_in_front-in-Err-next_byte.result c.from_residual-in_err-none_in_front-in-Err-next_byte.ensures.1 in
    let said = c.in_err-none_in_front-in-Err-next_byte.ensures.refused in
    let fault : c.in-Err-next_byte.error ≡ Mail ReadFault = elim c.in-Err-next_byte.ensures.refused [ inl ended ↦ absurd (said.1 ended refl) | inr failed ↦ failed ] in
    rw (p.1, p.2, said.0, fault)
    (Lost_then (left c.args.src.now) (left c.loop-alloc.src) (left c.next_byte.new.src) (λ t. IsMessageLines t msgs × (length t ≡ c.loop-alloc.count)) (λ t. t ≡ []) (OpenTakes (Tail 4096) (Mail ReadFault))
    inv.taken c.in-Err-next_byte.ensures.taken (λ a b p q. lines_fault msgs a p.0 b q few))
