use Rattle.std.proofs.Common.{ℕ, Vec, Global}
use Rattle.mail_commands.specs.Input.{IsLine}
use Rattle.mail_commands.proofs.Inputs.{line_missing}
use Rattle.mail_commands.proofs.input.next_line.Goals as goal

pub returns-in-None-clause-taken : goal.returns-in-None-clause-taken
returns-in-None-clause-taken g c =
    let left = g.S.Source.left in
    line_missing (Vec ℕ Global) (λ t bytes. IsLine c.args.least c.args.most t bytes.items) (left c.args.src.now) (left c.line_or_end.new.src) c.args.least c.args.most c.requires.range c.requires.even
    (rw c.in-None.is at c.in_ok-bytes.ensures.taken)
