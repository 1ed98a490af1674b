use Rattle.std.proofs.Common.{drop, take_all, ◌∙◌, arith, length-drop}
use Rattle.ml_kem.proofs.bytes.halves.Goals as goal

pub returns-clause-second : goal.returns-clause-second
returns-clause-second c = c.copy_from_slice-2.ensures.after ∙ take_all 32 (drop 32 c.args.bytes.now) (omega (arith, length-drop 32 c.args.bytes.now))
