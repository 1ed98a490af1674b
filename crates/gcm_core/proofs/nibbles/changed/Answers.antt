use Rattle.std.proofs.Common.{refl, w8}
use Rattle.std.proofs.lemmas.Simd.{below_from_Fits}
use Rattle.gcm_core.proofs.Lanes.{places}
use Rattle.gcm_core.proofs.HalfBytes.{changed_block, high, high_of_block, low, low_of_block}
use Rattle.gcm_core.proofs.nibbles.changed.Goals as goal

pub look_up-requires : goal.look_up-requires
look_up-requires c = places low c.args.s _ c.fits-s (low_of_block c.args.s c.fits-s) refl

pub look_up-requires-2 : goal.look_up-requires-2
look_up-requires-2 c = places high c.args.s _ c.fits-s (high_of_block c.args.s c.fits-s) refl

pub returns : goal.returns
returns c = (changed_block c.args.s c.look_up.result c.«look_up-2».result c.fits-s c.look_up.ensures c.«look_up-2».ensures, below_from_Fits w8 c.args.s c.fits-s.1)
