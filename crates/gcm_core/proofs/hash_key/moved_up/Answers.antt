use Rattle.std.proofs.Common.{w8}
use Rattle.std.proofs.lemmas.Simd.{below_from_Fits}
use Rattle.gcm_core.proofs.Moved.{number-moved}
use Rattle.gcm_core.proofs.hash_key.moved_up.Goals as goal

pub returns : goal.returns
returns c =
    number-moved c.args.below c.args.lanes c.fits-below.0 c.fits-lanes.0 (below_from_Fits w8 c.args.below c.fits-below.1) (below_from_Fits w8 c.args.lanes c.fits-lanes.1)
