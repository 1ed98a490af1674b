use Rattle.std.proofs.Common.{ℕ, List, Vec, Global}
use Rattle.std.proofs.lemmas.Result.{err_from_is_err_and}
use Rattle.mail_commands.specs.Input.{IsHead, IsLine}
use Rattle.mail_commands.specs.declared.input.Head.{Head}
use Rattle.mail_commands.proofs.Inputs.{lost_first, lost_second, lost_head}
use Rattle.mail_commands.proofs.input.next_head.Goals as goal

pub returns-in_err-seed-clause-taken : goal.returns-in_err-seed-clause-taken
returns-in_err-seed-clause-taken g c =
    let left = g.S.Source.left in
    let p = err_from_is_err_and c.from_residual.result c.from_residual.ensures.1 in
    rw (p.1, p.2)
    (lost_first (List ℕ) Head (λ t seed. IsLine 128 128 t seed) (λ t head. IsHead t head.seed head.info.items) (left c.args.src.now) (left c.next_seed.new.src) c.in_err-seed.field-0.0 c.in_err-seed.ensures.taken)

pub returns-in-Ok-clause-taken : goal.returns-in-Ok-clause-taken
returns-in-Ok-clause-taken g c =
    let left = g.S.Source.left in
    lost_head (left c.args.src.now) (left c.next_seed.new.src) (left c.next_line.new.src) c.in_ok-seed.seed c.in-Ok.info.items c.in_ok-seed.ensures.taken c.in-Ok.ensures.taken

pub returns-in-Err-clause-taken : goal.returns-in-Err-clause-taken
returns-in-Err-clause-taken g c =
    let left = g.S.Source.left in
    rw c.behind_bytes.ensures
    (lost_second (Vec ℕ Global) Head (λ t bytes. IsLine 0 8192 t bytes.items) (λ t head. IsHead t head.seed head.info.items) (left c.args.src.now) (left c.next_seed.new.src) (left c.next_line.new.src) c.in_ok-seed.seed c.in-Err.error
    c.in_ok-seed.ensures.taken c.in-Err.ensures.taken)
