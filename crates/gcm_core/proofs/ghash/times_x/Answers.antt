use Rattle.std.proofs.Common.{refl}
use Rattle.gcm_core.proofs.Hash.{times_x-chosen}
use Rattle.gcm_core.proofs.ghash.times_x.Goals as goal

pub returns : goal.returns
returns c =
    times_x-chosen c.«from_u128_lsb-passes».result c.args.p _ c.select_u128.result c.ranges.p.fits c.«from_u128_lsb-passes».ensures refl c.select_u128.ensures
