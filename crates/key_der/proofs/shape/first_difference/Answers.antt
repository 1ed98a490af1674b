use Rattle.std.proofs.Common.{sym, ◌∙◌, arith}
use Rattle.key_der.proofs.Differences.{first_difference-end}
use Rattle.key_der.proofs.shape.first_difference.Goals as goal

pub returns : goal.returns
returns c = sym (c.loop-i.invariant ∙ first_difference-end c.loop-i.i c.args.header.now c.args.text.now (omega arith))
