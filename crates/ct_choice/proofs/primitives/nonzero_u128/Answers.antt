use Rattle.std.proofs.Common.{rules}
use Rattle.ct_choice.proofs.Words.{nonzero_top}
use Rattle.ct_choice.proofs.primitives.nonzero_u128.Goals as goal

pub returns : goal.returns
returns c = nonzero_top 127 c.args.value c.wrapping_neg.result c.ranges.value.fits (search rules) c.wrapping_neg.ensures
