use Rattle.dsa_ring.proofs.Eight.{layers-transform}
use Rattle.dsa_ring.proofs.EightBack.{inverse-layers}
use Rattle.dsa_ring.proofs.laws.layers_are_the_transform.Goals as goal

pub returns-clause-transform : goal.returns-clause-transform
returns-clause-transform c = layers-transform

pub returns-clause-inverse : goal.returns-clause-inverse
returns-clause-inverse c = inverse-layers
