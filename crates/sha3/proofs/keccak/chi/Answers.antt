use Rattle.std.proofs.Common.{refl}
use Rattle.sha3.specs.Keccak.{chi}
use Rattle.sha3.proofs.keccak.chi.Goals as goal

pub returns : goal.returns
unfolding chi
returns c = refl
