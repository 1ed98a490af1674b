use Rattle.lattice_transform.proofs.SumLaw.{transform-sum}
use Rattle.lattice_transform.proofs.laws.transform_keeps_sums.Goals as goal

pub returns : goal.returns
returns c = transform-sum
