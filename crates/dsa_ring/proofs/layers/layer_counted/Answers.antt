use Rattle.std.proofs.Common.{refl, rules, arith}
use Rattle.dsa_ring.specs.Layers.{butterflies}
use Rattle.dsa_ring.proofs.LayerLoop.{after-all, before-next, first-inside, group-inside, next-butterfly, second-inside}
use Rattle.dsa_ring.proofs.layers.layer_counted.Goals as goal

pub loop-k-init : goal.loop-k-init
unfolding butterflies
loop-k-init g c = record { made = refl; before = λ none. absurd (omega (arith, none)); counted = omega arith }

pub butterfly-requires : goal.butterfly-requires
butterfly-requires g c = record {
  first = first-inside c.args.half c.loop-k.k c.requires.low c.requires.whole (search rules);
  second = second-inside c.args.half c.loop-k.k c.requires.low c.requires.whole (search rules);
  apart = λ same. absurd (omega (arith, same, c.requires.low));
}

pub zeta-requires : goal.zeta-requires
zeta-requires g c = group-inside c.args.half c.loop-k.k c.requires.low c.requires.whole (search rules)

pub loop-k-preserved : goal.loop-k-preserved
loop-k-preserved g c = record {
  made = next-butterfly c.args.half c.loop-k.k c.zeta.result _ _ _ c.butterfly.ensures.changed c.zeta.ensures c.loop-k.invariant.made;
  before = λ some. before-next c.loop-k.k c.args.half _ _ c.loop-k.invariant.made c.loop-k.invariant.before c.butterfly.ensures.before;
  counted = omega (arith, c.butterfly.ensures.counted, c.loop-k.invariant.counted);
}

pub returns : goal.returns
returns g c = record {
  value = after-all c.args.half c.loop-k.k _ _ (search rules) (search rules) c.loop-k.invariant.made;
  before = c.loop-k.invariant.before (search rules);
  counted = omega (arith, c.loop-k.invariant.counted);
}
