use Rattle.ct_choice.proofs.Words.{borrow_of_comparison}
use Rattle.ct_choice.proofs.primitives.below_u128.Goals as goal

pub returns : goal.returns
returns c = borrow_of_comparison 127 c.args.x c.args.y c.ranges.x.fits c.ranges.y.fits
