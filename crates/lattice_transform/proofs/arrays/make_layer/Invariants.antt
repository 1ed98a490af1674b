use Rattle.std.proofs.Common.{◌≡◌, ◌*◌}
use Rattle.module_lattice.specs.Ring.{IsPolynomial}
use Rattle.lattice_transform.specs.private.Rows.{row_butterflies}
use Rattle.lattice_transform.proofs.arrays.make_layer.Given as goal

-- the butterflies of the rows before this one were made
abbrev pub invariant-loop-row : goal.invariant-loop-row
invariant-loop-row l = record {
  made : l.values ≡ row_butterflies l.half l.step (16 * l.row) l.fn.values;
  polynomial : IsPolynomial 3329 l.values;
}
