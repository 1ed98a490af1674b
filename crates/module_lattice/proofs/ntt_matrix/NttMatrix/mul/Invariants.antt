use Rattle.std.proofs.Common.{◌≡◌, take}
use Rattle.module_lattice.specs.Vectors.{matrix_product}
use Rattle.module_lattice.proofs.ntt_matrix.NttMatrix.mul.Given as goal

abbrev pub invariant-loop-i : goal.invariant-loop-i
invariant-loop-i g l = l.items.items ≡ take l.i (matrix_product g.F.Field.Q g.F.MultiplyNtt.product_of l.self-inside.rows.items l.rhs)
