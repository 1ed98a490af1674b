use Rattle.std.proofs.Common.{◌≡◌, take}
use Rattle.std.specs.Simd.Lanes.{zip2}
use Rattle.module_lattice.specs.Vectors.{total}
use Rattle.module_lattice.proofs.multiply_ntt.MultiplyNtt.dot.Given as goal

abbrev pub invariant-loop-i : goal.invariant-loop-i
invariant-loop-i g l = l.sum ≡ total g.Self.Field.Q (take l.i (zip2 g.Self.MultiplyNtt.product_of l.lhs l.rhs))
