use Rattle.std.proofs.Common.{◌*◌, refl, arith, rules}
use Rattle.dsa_ring.specs.Layers.{inverse_butterflies}
use Rattle.dsa_ring.proofs.GroupLoop.{inverse-same, inverse-of-groups}
use Rattle.dsa_ring.proofs.arrays.undo_layer.Goals as goal

pub loop-group-init : goal.loop-group-init
unfolding inverse_butterflies
loop-group-init c = record { made = inverse-same c.args.half 0 (c.args.half * 0) _ _ (omega arith) refl; polynomial = c.requires.polynomial }

pub loop-group-preserved : goal.loop-group-preserved
loop-group-preserved c = record {
  made = inverse-same c.args.half _ _ _ _ (omega arith) (c.undo_group.ensures.value _ c.loop-group.invariant.made);
  polynomial = c.undo_group.ensures.polynomial;
}

pub returns : goal.returns
returns c = record {
  value = inverse-of-groups c.args.half c.loop-group.group _ _ c.requires.whole (search rules) c.loop-group.invariant.made;
  polynomial = c.loop-group.invariant.polynomial;
}
