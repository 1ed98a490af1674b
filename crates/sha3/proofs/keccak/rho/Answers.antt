use Rattle.std.proofs.Common.{rules}
use Rattle.sha3.specs.Keccak.{rho}
use Rattle.sha3.proofs.keccak.rho.Goals as goal

pub returns : goal.returns
unfolding rho
returns c = search rules
