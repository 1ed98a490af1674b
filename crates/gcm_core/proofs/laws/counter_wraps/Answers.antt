use Rattle.std.proofs.Common.{refl}
use Rattle.gcm_core.specs.Gcm.{inc32}
use Rattle.gcm_core.proofs.laws.counter_wraps.Goals as goal

pub returns : goal.returns
unfolding inc32
returns c = refl
