use Rattle.std.proofs.Common.{◌≡◌, Some, All, map}
use Rattle.std.specs.List.{range_with_len}
use Rattle.module_lattice.specs.Ring.{IsPolynomial}
use Rattle.module_lattice.specs.Vectors.{RowsHaveLength}
use Rattle.lattice_transform.specs.Transform.{inverse_transform}
use Rattle.ml_kem.specs.Matrix.{all_or_none, row}
use Rattle.ml_kem.proofs.matrix.sample_matrix.Given as goal

abbrev pub invariant-loop-i : goal.invariant-loop-i
invariant-loop-i g l = record {
  made : all_or_none (map (row g.H.KemHash.family l.k l.rho) (range_with_len 0 l.i)) ≡ Some (map (map inverse_transform) l.rows.items);
  rows : RowsHaveLength l.k l.rows.items;
  polynomials : All (All (IsPolynomial 3329)) l.rows.items;
}
