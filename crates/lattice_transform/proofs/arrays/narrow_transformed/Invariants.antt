use Rattle.std.proofs.Common.{◌<◌, get_or}
use Rattle.module_lattice.specs.Ring.{IsPolynomial}
use Rattle.lattice_transform.proofs.Filled.{Filled}
use Rattle.lattice_transform.proofs.arrays.narrow_transformed.Given as goal

abbrev pub invariant-loop-i : goal.invariant-loop-i
invariant-loop-i l = record {
  copied : Filled (λ k. get_or l.f k 0) l.i l.rows;
  polynomial : 0 < l.i → IsPolynomial 3329 l.f;
}
