use Rattle.module_lattice.proofs.Sums.{IsSums-zeros, reduced_pairs-zeros}
use Rattle.module_lattice.proofs.product_sums.ProductSumsDefault.default.Goals as goal

pub invariant_of-result : goal.invariant_of-result
invariant_of-result c = (IsSums-zeros, IsSums-zeros, IsSums-zeros)

pub returns : goal.returns
returns c = reduced_pairs-zeros
