use Rattle.std.proofs.Common.{◌≡◌, take}
use Rattle.std.specs.Simd.Lanes.{zip2}
use Rattle.module_lattice.specs.Pairs.{pair_products}
use Rattle.module_lattice.specs.Vectors.{total}
use Rattle.module_lattice.proofs.multiply_ntt.BaseFieldMultiplyNtt.dot.Given as goal

abbrev pub invariant-loop-i : goal.invariant-loop-i
invariant-loop-i l = l.sums ≡ total 3329 (take l.i (zip2 pair_products l.lhs l.rhs))
