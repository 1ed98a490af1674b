use Rattle.module_lattice.specs.Pairs.{gamma}
use Rattle.module_lattice.proofs.Sums.{turned_once}
use Rattle.module_lattice.proofs.product_sums.reduced_pair.Goals as goal

pub returns : goal.returns
returns c = cc (turned_once c.args.constant c.args.square (gamma c.args.i))
