use Rattle.std.proofs.Common.{◌<◌, ◌^◌, arith}
use Rattle.std.proofs.lemmas.Simd.{below_from_Fits}
use Rattle.std.proofs.Common.{w8}
use Rattle.gcm_core.proofs.Sums.{number-lt}
use lib.Lanes.{number_l}
use Rattle.gcm_core.proofs.hash_key.number_of.Goals as goal

pub returns : goal.returns
returns c =
    let small : number_l 256 c.args.lanes < 2 ^ 128 = number-lt 16 c.args.lanes (below_from_Fits w8 c.args.lanes c.fits-lanes.1) (omega (arith, c.fits-lanes.0)) in
    omega arith
