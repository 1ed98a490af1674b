use Rattle.std.proofs.Common.{◌+◌, ◌*◌}
use Rattle.module_lattice.proofs.Sums.{factors, folded}
use Rattle.module_lattice.proofs.product_sums.plus_product.Goals as goal

pub returns-clause-value : goal.returns-clause-value
returns-clause-value c =
    factors c.args.x c.get.result c.get-2.result c.args.a c.args.b c.small_reduce.result
    (folded (c.args.x + c.get.result * c.get-2.result) c.small_reduce.result c.small_reduce.ensures) c.get.ensures.value c.get-2.ensures.value
