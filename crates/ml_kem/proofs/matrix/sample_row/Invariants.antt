use Rattle.std.proofs.Common.{◌≡◌, Some, All, map}
use Rattle.std.specs.List.{range_with_len}
use Rattle.module_lattice.specs.Ring.{IsPolynomial}
use Rattle.lattice_transform.specs.Transform.{inverse_transform}
use Rattle.ml_kem.specs.Matrix.{all_or_none, entry}
use Rattle.ml_kem.proofs.matrix.sample_row.Given as goal

abbrev pub invariant-loop-j : goal.invariant-loop-j
invariant-loop-j g l = record {
  made : all_or_none (map (entry g.H.KemHash.family l.rho l.i) (range_with_len 0 l.j)) ≡ Some (map inverse_transform l.items.items);
  polynomials : All (IsPolynomial 3329) l.items.items;
}
