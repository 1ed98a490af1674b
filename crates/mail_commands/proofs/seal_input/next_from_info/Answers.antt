use Rattle.std.proofs.Common.{◌≡◌, ◌+◌, ◌*◌, ℕ, length, Vec, Global, refl}
use Rattle.std.proofs.lemmas.Result.{err_from_is_err_and}
use Rattle.mail_commands.specs.Input.{IsLine}
use Rattle.mail_commands.specs.private.SealParts.{FromSource, HoldsFromInfo, HoldsFromSource}
use Rattle.mail_commands.specs.declared.seal_input.SealInput.{SealInput}
use Rattle.mail_commands.proofs.Inputs.{Lost_then}
use Rattle.mail_commands.proofs.SealInputs.{least_source, least_source_is, lost_behind, lost_line}
use Rattle.mail_commands.proofs.seal_input.next_from_info.Goals as goal

pub returns-in_err-info-clause-taken : goal.returns-in_err-info-clause-taken
returns-in_err-info-clause-taken g c =
    let left = g.S.Source.left in
    let p = err_from_is_err_and c.from_residual.result c.from_residual.ensures.1 in
    rw (p.1, p.2)
    (lost_line 0 8192 FromSource least_source least_source_is (Vec ℕ Global) SealInput (λ t bytes. IsLine 0 8192 t bytes.items) (λ t made. HoldsFromInfo t made.info.items made.source made.messages) (left c.args.src.now) (left c.next_line.new.src) c.in_err-info.field-0.0 c.in_err-info.ensures.taken)

pub returns-in-Ok-clause-taken : goal.returns-in-Ok-clause-taken
returns-in-Ok-clause-taken g c =
    let left = g.S.Source.left in
    rw c.in-Ok.ensures.kept.1
    (Lost_then (left c.args.src.now) (left c.next_line.new.src) (left c.next_from_source.new.src) (λ t. IsLine 0 8192 t c.in_ok-info.info.items) (λ t. HoldsFromSource t c.in-Ok.input.source c.in-Ok.input.messages)
    (λ t. HoldsFromInfo t c.in_ok-info.info.items c.in-Ok.input.source c.in-Ok.input.messages) c.in_ok-info.ensures.taken c.in-Ok.ensures.taken (λ a b p q. (a, b, refl, p, q)))

pub returns-in-Err-clause-taken : goal.returns-in-Err-clause-taken
returns-in-Err-clause-taken g c =
    let left = g.S.Source.left in
    let long : c.line_len-count.result ≡ 2 * length c.in_ok-info.info.items + 1 = rw c.deref.ensures.value at c.line_len-count.ensures in
    rw c.behind_bytes.ensures
    (lost_behind 0 8192 FromSource least_source least_source_is (Vec ℕ Global) SealInput (λ t bytes. IsLine 0 8192 t bytes.items) (λ t made. HoldsFromInfo t made.info.items made.source made.messages) (left c.args.src.now) (left c.next_line.new.src) (left c.next_from_source.new.src) c.in_ok-info.info.items c.line_len-count.result c.in-Err.error long c.in_ok-info.ensures.taken c.in-Err.ensures.taken)
