use Rattle.std.proofs.Common.{rules}
use Rattle.sha3.specs.Keccak.{theta}
use Rattle.sha3.proofs.keccak.theta.Goals as goal

pub returns : goal.returns
unfolding theta
returns c = search rules
