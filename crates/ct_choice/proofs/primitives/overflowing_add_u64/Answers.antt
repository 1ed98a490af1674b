use Rattle.std.proofs.Common.{arith}
use Rattle.std.proofs.lemmas.Bool.Decides.{nat_tests}
use Rattle.ct_choice.proofs.Words.{carry_of_sum}
use Rattle.ct_choice.proofs.primitives.overflowing_add_u64.Goals as goal

pub returns-clause-passes : goal.returns-clause-passes
returns-clause-passes c =
    let carry = carry_of_sum 63 c.args.lhs c.args.rhs c.ranges.lhs.fits c.ranges.rhs.fits in
    grind (arith, nat_tests, carry)
