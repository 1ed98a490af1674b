use Rattle.std.proofs.Common.{refl}
use Rattle.sha3.specs.Keccak.{pi}
use Rattle.sha3.proofs.keccak.pi.Goals as goal

pub returns : goal.returns
unfolding pi
returns c = refl
