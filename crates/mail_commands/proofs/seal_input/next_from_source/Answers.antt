use Rattle.std.proofs.Common.{◌≡◌, ◌+◌, ◌*◌, ℕ, [], length, Vec, Global, refl, arith}
use Rattle.std.proofs.lemmas.Result.{err_from_is_err_and}
use Rattle.mail_commands.specs.Input.{IsLine, IsMessages}
use Rattle.mail_commands.specs.private.SealParts.{HoldsFromSource, Tail}
use Rattle.mail_commands.specs.declared.seal_input.SealInput.{SealInput}
use Rattle.mail_commands.proofs.Inputs.{Lost_then}
use Rattle.mail_commands.proofs.SealInputs.{lost_behind, lost_line, no_messages}
use Rattle.mail_commands.proofs.seal_input.next_from_source.Goals as goal

pub returns-in_err-bytes-clause-taken : goal.returns-in_err-bytes-clause-taken
returns-in_err-bytes-clause-taken g c =
    let left = g.S.Source.left in
    let p = err_from_is_err_and c.from_residual.result c.from_residual.ensures.1 in
    rw (p.1, p.2)
    (lost_line 64 64 (Tail 4096) [] (no_messages 4096) (Vec ℕ Global) SealInput (λ t bytes. IsLine 64 64 t bytes.items) (λ t made. HoldsFromSource t made.source made.messages) (left c.args.src.now) (left c.next_line.new.src) c.in_err-bytes.field-0.0 c.in_err-bytes.ensures.taken)

pub returns-in-Ok-clause-taken : goal.returns-in-Ok-clause-taken
returns-in-Ok-clause-taken g c =
    let left = g.S.Source.left in
    rw (c.copy_from_slice.ensures.after, c.deref.ensures.value)
    (Lost_then (left c.args.src.now) (left c.next_line.new.src) (left c.next_messages.new.src) (λ t. IsLine 64 64 t c.in_ok-bytes.bytes.items) (λ t. IsMessages 4096 t c.in-Ok.messages) (λ t. HoldsFromSource t c.in_ok-bytes.bytes.items c.in-Ok.messages)
    c.in_ok-bytes.ensures.taken c.in-Ok.ensures.taken (λ a b p q. (a, b, refl, p, q)))

pub returns-in-Err-clause-taken : goal.returns-in-Err-clause-taken
returns-in-Err-clause-taken g c =
    let left = g.S.Source.left in
    let sized = c.in_ok-bytes.ensures.sized in
    let long : 65 ≡ 2 * length c.in_ok-bytes.bytes.items + 1 = omega (arith, sized) in
    rw c.behind_bytes.ensures
    (lost_behind 64 64 (Tail 4096) [] (no_messages 4096) (Vec ℕ Global) SealInput (λ t bytes. IsLine 64 64 t bytes.items) (λ t made. HoldsFromSource t made.source made.messages) (left c.args.src.now) (left c.next_line.new.src) (left c.next_messages.new.src) c.in_ok-bytes.bytes.items 65 c.in-Err.error long c.in_ok-bytes.ensures.taken c.in-Err.ensures.taken)
