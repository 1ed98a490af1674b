use Rattle.dsa_ring.proofs.Inverse.{inverse-transform, transform-inverse}
use Rattle.dsa_ring.proofs.laws.transforms_undo_each_other.Goals as goal

pub returns-clause-inverse : goal.returns-clause-inverse
returns-clause-inverse c = inverse-transform

pub returns-clause-transform : goal.returns-clause-transform
returns-clause-transform c = transform-inverse
