use Rattle.std.proofs.Common.{◌∙◌, ap}
use Rattle.module_lattice.specs.Ring.{sum}
use Rattle.module_lattice.specs.Pairs.{pair_products}
use Rattle.module_lattice.proofs.product_sums.ProductSums.add_product.Goals as goal

pub returns : goal.returns
returns c = c.add_pairs.ensures.value ∙ ap (λ v. sum 3329 v (pair_products c.args.lhs.now c.args.rhs.now)) c.self.view_is
