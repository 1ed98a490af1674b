use Rattle.ct_choice.proofs.Words.{borrow_of_difference}
use Rattle.ct_choice.proofs.primitives.borrowing_sub_inner_u64.Goals as goal

pub returns-clause-borrows : goal.returns-clause-borrows
returns-clause-borrows c = borrow_of_difference 63 c.args.lhs c.args.rhs c.args.borrow c.ranges.lhs.fits c.ranges.rhs.fits c.requires
