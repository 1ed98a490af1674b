use Rattle.module_lattice.proofs.Powers.{product-power_of_x}
use Rattle.module_lattice.proofs.laws.powers_of_x.Goals as goal

pub returns : goal.returns
returns c = product-power_of_x
