use Rattle.lattice_transform.proofs.Seven.{layers-transform}
use Rattle.lattice_transform.proofs.SevenBack.{inverse-layers}
use Rattle.lattice_transform.proofs.laws.layers_are_the_transform.Goals as goal

pub returns-clause-transform : goal.returns-clause-transform
returns-clause-transform c = layers-transform

pub returns-clause-inverse : goal.returns-clause-inverse
returns-clause-inverse c = inverse-layers
