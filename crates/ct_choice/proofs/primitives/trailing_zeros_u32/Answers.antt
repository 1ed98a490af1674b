use Rattle.ct_choice.proofs.Words.{trailing_of_zero}
use Rattle.ct_choice.proofs.primitives.trailing_zeros_u32.Goals as goal

pub returns-clause-zero : goal.returns-clause-zero
returns-clause-zero c e = rw e (trailing_of_zero 32)
