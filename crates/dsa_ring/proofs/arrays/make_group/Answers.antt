use Rattle.std.proofs.Common.{◌+◌, ◌*◌, ◌≤◌, arith}
use Rattle.dsa_ring.proofs.GroupLoop.{butterflies-same, next-in-group, zeta-inside, group-within}
use Rattle.dsa_ring.proofs.arrays.make_group.Goals as goal

pub zeta-turn-requires : goal.zeta-turn-requires
zeta-turn-requires c = zeta-inside c.args.half c.args.group c.requires.low c.requires.whole c.requires.place

pub butterfly-requires : goal.butterfly-requires
butterfly-requires c =
    let within : c.args.half * c.args.group + c.args.half ≤ 128 = group-within c.args.half c.args.group c.requires.whole c.requires.place in
    record { first = omega arith; second = omega arith; polynomial = c.loop-j.invariant.polynomial }

pub loop-j-init : goal.loop-j-init
loop-j-init c = record {
  made = λ f before. butterflies-same c.args.half _ _ f _ (omega arith) before;
  polynomial = c.requires.polynomial;
}

pub loop-j-preserved : goal.loop-j-preserved
loop-j-preserved c = record {
  made = λ f before. next-in-group c.args.half c.args.group c.loop-j.j c.zeta-turn.result f _ _ (omega arith) c.butterfly.ensures.value c.zeta-turn.ensures
      (c.loop-j.invariant.made f before);
  polynomial = c.butterfly.ensures.polynomial;
}

pub returns : goal.returns
returns c = record {
  value = λ f before. butterflies-same c.args.half _ _ f _ (omega arith) (c.loop-j.invariant.made f before);
  polynomial = c.loop-j.invariant.polynomial;
}
