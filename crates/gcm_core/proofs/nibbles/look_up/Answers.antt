use Rattle.std.proofs.Common.{arith}
use Rattle.gcm_core.proofs.Lanes.{places-ok, swz_l-map}
use Rattle.gcm_core.proofs.nibbles.look_up.Goals as goal

pub swizzle : goal.swizzle
swizzle c = places-ok c.args.places c.fits-places.0 c.requires

pub returns : goal.returns
returns c = swz_l-map c.args.table 0 c.args.places (omega (arith, c.fits-places.0))
