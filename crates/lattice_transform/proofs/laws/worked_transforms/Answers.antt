use Rattle.std.proofs.Common.{refl}
use Rattle.module_lattice.specs.Pairs.{gamma}
use Rattle.module_lattice.specs.Worked.{worked_f, worked_g, worked_product, transform_of_f, transform_of_g, transform_of_product}
use Rattle.lattice_transform.specs.Transform.{transform, inverse_transform}
use Rattle.lattice_transform.proofs.laws.worked_transforms.Goals as goal

pub returns-clause-of_f : goal.returns-clause-of_f
unfolding transform gamma worked_f transform_of_f
returns-clause-of_f c = refl

pub returns-clause-of_g : goal.returns-clause-of_g
unfolding transform gamma worked_g transform_of_g
returns-clause-of_g c = refl

pub returns-clause-of_product : goal.returns-clause-of_product
unfolding transform gamma worked_product transform_of_product
returns-clause-of_product c = refl

pub returns-clause-inverse : goal.returns-clause-inverse
unfolding inverse_transform gamma worked_product transform_of_product
returns-clause-inverse c = refl
