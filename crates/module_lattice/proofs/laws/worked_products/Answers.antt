use Rattle.std.proofs.Common.{refl}
use Rattle.module_lattice.specs.Pairs.{gamma, pair_products}
use Rattle.module_lattice.specs.Ring.{product}
use Rattle.module_lattice.specs.Worked.{worked_f, worked_g, worked_product, transform_of_f, transform_of_g, transform_of_product}
use Rattle.module_lattice.proofs.laws.worked_products.Goals as goal

pub returns-clause-product : goal.returns-clause-product
unfolding product worked_f worked_g worked_product
returns-clause-product c = refl

pub returns-clause-pairs : goal.returns-clause-pairs
unfolding gamma pair_products transform_of_f transform_of_g transform_of_product
returns-clause-pairs c = refl
