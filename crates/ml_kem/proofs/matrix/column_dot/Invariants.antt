use Rattle.std.proofs.Common.{◌≡◌, take}
use Rattle.std.specs.Simd.Lanes.{zip2}
use Rattle.module_lattice.specs.Pairs.{pair_products}
use Rattle.module_lattice.specs.Vectors.{total}
use Rattle.ml_kem.specs.Matrix.{column}
use Rattle.ml_kem.proofs.matrix.column_dot.Given as goal

abbrev pub invariant-loop-j : goal.invariant-loop-j
invariant-loop-j l = l.sums ≡ total 3329 (take l.j (zip2 pair_products (column l.a l.i) l.v))
