use Rattle.std.proofs.Common.{◌≡◌, ◌+◌, ◌*◌, ℕ, List}
use Rattle.module_lattice.specs.Ring.{IsPolynomial}
use Rattle.lattice_transform.specs.private.Rows.{inverse_row_butterflies}
use Rattle.lattice_transform.proofs.arrays.undo_row.Given as goal

-- the butterflies of the columns before this one were made
abbrev pub invariant-loop-column : goal.invariant-loop-column
invariant-loop-column l = record {
  made : (f : List ℕ) → l.fn.values ≡ inverse_row_butterflies l.half l.step (16 * l.row) f → l.values ≡ inverse_row_butterflies l.half l.step (16 * l.row + l.column) f;
  polynomial : IsPolynomial 3329 l.values;
}
