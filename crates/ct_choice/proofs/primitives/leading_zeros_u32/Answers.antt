use Rattle.ct_choice.proofs.Words.{leading_of_zero}
use Rattle.ct_choice.proofs.primitives.leading_zeros_u32.Goals as goal

pub returns-clause-zero : goal.returns-clause-zero
returns-clause-zero c e = rw e (leading_of_zero 32)
