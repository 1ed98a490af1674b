use Rattle.std.proofs.Common.{refl}
use Rattle.sha3.specs.Keccak.{chi, keccak_f, pi, rho, rounds, theta}
use Rattle.sha3.proofs.laws.worked_permutation.Goals as goal

pub returns : goal.returns
unfolding theta rho pi chi rounds keccak_f
returns c = refl
