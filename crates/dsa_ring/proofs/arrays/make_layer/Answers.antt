use Rattle.std.proofs.Common.{◌*◌, refl, arith, rules}
use Rattle.dsa_ring.specs.Layers.{butterflies}
use Rattle.dsa_ring.proofs.GroupLoop.{butterflies-same, layer-of-groups}
use Rattle.dsa_ring.proofs.arrays.make_layer.Goals as goal

pub loop-group-init : goal.loop-group-init
unfolding butterflies
loop-group-init c = record { made = butterflies-same c.args.half 0 (c.args.half * 0) _ _ (omega arith) refl; polynomial = c.requires.polynomial }

pub loop-group-preserved : goal.loop-group-preserved
loop-group-preserved c = record {
  made = butterflies-same c.args.half _ _ _ _ (omega arith) (c.make_group.ensures.value _ c.loop-group.invariant.made);
  polynomial = c.make_group.ensures.polynomial;
}

pub returns : goal.returns
returns c = record {
  value = layer-of-groups c.args.half c.loop-group.group _ _ c.requires.whole (search rules) c.loop-group.invariant.made;
  polynomial = c.loop-group.invariant.polynomial;
}
