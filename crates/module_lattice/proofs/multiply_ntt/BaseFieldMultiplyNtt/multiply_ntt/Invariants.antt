use Rattle.module_lattice.specs.Pairs.{pair_product}
use Rattle.module_lattice.proofs.Products.{Paired}
use Rattle.module_lattice.proofs.multiply_ntt.BaseFieldMultiplyNtt.multiply_ntt.Given as goal

abbrev pub invariant-loop-i : goal.invariant-loop-i
invariant-loop-i l = Paired (pair_product l.lhs l.rhs) l.i l.out
