use Rattle.std.proofs.Common.{refl, arith}
use Rattle.lattice_transform.specs.private.Rows.{inverse_row_butterflies}
use Rattle.lattice_transform.proofs.RowLoop.{back-same}
use Rattle.lattice_transform.proofs.arrays.undo_layer.Goals as goal

pub loop-row-init : goal.loop-row-init
unfolding inverse_row_butterflies
loop-row-init c = record { made = refl; polynomial = c.requires.polynomial }

pub loop-row-preserved : goal.loop-row-preserved
loop-row-preserved c = record {
  made = back-same c.args.half c.args.step _ _ _ _ (omega arith) (c.undo_row.ensures.value _ c.loop-row.invariant.made);
  polynomial = c.undo_row.ensures.polynomial;
}

pub returns : goal.returns
returns c = record {
  value = back-same c.args.half c.args.step _ _ _ _ (omega arith) c.loop-row.invariant.made;
  polynomial = c.loop-row.invariant.polynomial;
}
