use Rattle.dsa_ring.proofs.SumLaw.{transform-sum}
use Rattle.dsa_ring.proofs.laws.transform_keeps_sums.Goals as goal

pub returns : goal.returns
returns c = transform-sum
