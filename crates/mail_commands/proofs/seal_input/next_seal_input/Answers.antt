use Rattle.std.proofs.Common.{◌≡◌, ◌+◌, ◌*◌, ℕ, length, Vec, Global}
use Rattle.std.proofs.lemmas.Result.{err_from_is_err_and}
use Rattle.mail_commands.specs.Input.{IsLine, IsLineText, IsSealInput, IsSealText}
use Rattle.mail_commands.specs.Taken.{OpenTakes}
use Rattle.mail_commands.specs.private.InputParts.{behind}
use Rattle.mail_commands.specs.private.SealParts.{FromInfo, HoldsFromInfo, Then}
use Rattle.mail_commands.specs.declared.seal_input.SealInput.{SealInput}
use Rattle.mail_commands.proofs.Inputs.{Lost_then, Lost_weaker}
use Rattle.mail_commands.proofs.SealInputs.{least_info, least_info_is, lost_behind, lost_line, seal_input_made, takes_input}
use Rattle.mail_commands.proofs.seal_input.next_seal_input.Goals as goal

pub returns-in_err-key-clause-taken : goal.returns-in_err-key-clause-taken
returns-in_err-key-clause-taken g c =
    let left = g.S.Source.left in
    let e = c.in_err-key.field-0.0 in
    let p = err_from_is_err_and c.from_residual.result c.from_residual.ensures.1 in
    rw (p.1, p.2)
    (Lost_weaker (left c.args.src.now) (left c.next_line.new.src) (OpenTakes (Then (IsLineText (2 * c.args.key_size) (2 * c.args.key_size)) FromInfo) e) (OpenTakes (IsSealText c.args.key_size) e)
    (lost_line (2 * c.args.key_size) (2 * c.args.key_size) FromInfo least_info least_info_is (Vec ℕ Global) SealInput (λ t bytes. IsLine (2 * c.args.key_size) (2 * c.args.key_size) t bytes.items) (λ t made. IsSealInput c.args.key_size t made.key.items made.info.items made.source made.messages) (left c.args.src.now) (left c.next_line.new.src) e c.in_err-key.ensures.taken) (λ bytes t. takes_input c.args.key_size e bytes t))

pub returns-in-Ok-clause-taken : goal.returns-in-Ok-clause-taken
returns-in-Ok-clause-taken g c =
    let left = g.S.Source.left in
    let made = c.in-Ok.input in
    rw c.in-Ok.ensures.kept
    (Lost_then (left c.args.src.now) (left c.next_line.new.src) (left c.next_from_info.new.src) (λ t. IsLine (2 * c.args.key_size) (2 * c.args.key_size) t c.in_ok-key.key.items) (λ t. HoldsFromInfo t made.info.items made.source made.messages)
    (λ t. IsSealInput c.args.key_size t c.in_ok-key.key.items made.info.items made.source made.messages) c.in_ok-key.ensures.taken c.in-Ok.ensures.taken
    (λ a b p q. seal_input_made c.args.key_size a b c.in_ok-key.key.items made.info.items made.source made.messages p q))

pub returns-in-Err-clause-taken : goal.returns-in-Err-clause-taken
returns-in-Err-clause-taken g c =
    let left = g.S.Source.left in
    let long : c.line_len-count.result ≡ 2 * length c.in_ok-key.key.items + 1 = rw c.deref.ensures.value at c.line_len-count.ensures in
    let e = behind c.line_len-count.result c.in-Err.error in
    rw c.behind_bytes.ensures
    (Lost_weaker (left c.args.src.now) (left c.next_from_info.new.src) (OpenTakes (Then (IsLineText (2 * c.args.key_size) (2 * c.args.key_size)) FromInfo) e) (OpenTakes (IsSealText c.args.key_size) e)
    (lost_behind (2 * c.args.key_size) (2 * c.args.key_size) FromInfo least_info least_info_is (Vec ℕ Global) SealInput (λ t bytes. IsLine (2 * c.args.key_size) (2 * c.args.key_size) t bytes.items) (λ t made. IsSealInput c.args.key_size t made.key.items made.info.items made.source made.messages) (left c.args.src.now) (left c.next_line.new.src) (left c.next_from_info.new.src) c.in_ok-key.key.items c.line_len-count.result c.in-Err.error long c.in_ok-key.ensures.taken c.in-Err.ensures.taken)
    (λ bytes t. takes_input c.args.key_size e bytes t))
