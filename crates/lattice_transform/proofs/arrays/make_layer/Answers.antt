use Rattle.std.proofs.Common.{refl, arith}
use Rattle.lattice_transform.specs.private.Rows.{row_butterflies}
use Rattle.lattice_transform.proofs.RowLoop.{rows-same}
use Rattle.lattice_transform.proofs.arrays.make_layer.Goals as goal

pub loop-row-init : goal.loop-row-init
unfolding row_butterflies
loop-row-init c = record { made = refl; polynomial = c.requires.polynomial }

pub loop-row-preserved : goal.loop-row-preserved
loop-row-preserved c = record {
  made = rows-same c.args.half c.args.step _ _ _ _ (omega arith) (c.make_row.ensures.value _ c.loop-row.invariant.made);
  polynomial = c.make_row.ensures.polynomial;
}

pub returns : goal.returns
returns c = record {
  value = rows-same c.args.half c.args.step _ _ _ _ (omega arith) c.loop-row.invariant.made;
  polynomial = c.loop-row.invariant.polynomial;
}
