use Rattle.std.proofs.Common.{◌+◌, ◌*◌, ◌≤◌, arith}
use Rattle.dsa_ring.proofs.GroupLoop.{downward-zeta, inverse-same, next-back, group-within}
use Rattle.dsa_ring.proofs.arrays.undo_group.Goals as goal

pub zeta-turn-requires : goal.zeta-turn-requires
zeta-turn-requires c = downward-zeta c.args.half c.args.group c.requires.low c.requires.whole c.requires.place

pub inverse_butterfly-requires : goal.inverse_butterfly-requires
inverse_butterfly-requires c =
    let within : c.args.half * c.args.group + c.args.half ≤ 128 = group-within c.args.half c.args.group c.requires.whole c.requires.place in
    record { first = omega arith; second = omega arith; polynomial = c.loop-j.invariant.polynomial }

pub loop-j-init : goal.loop-j-init
loop-j-init c = record {
  made = λ f before. inverse-same c.args.half _ _ f _ (omega arith) before;
  polynomial = c.requires.polynomial;
}

pub loop-j-preserved : goal.loop-j-preserved
loop-j-preserved c = record {
  made = λ f before. next-back c.args.half c.args.group c.loop-j.j c.zeta-turn.result f _ _ (omega arith) c.inverse_butterfly.ensures.value c.zeta-turn.ensures
      (c.loop-j.invariant.made f before);
  polynomial = c.inverse_butterfly.ensures.polynomial;
}

pub returns : goal.returns
returns c = record {
  value = λ f before. inverse-same c.args.half _ _ f _ (omega arith) (c.loop-j.invariant.made f before);
  polynomial = c.loop-j.invariant.polynomial;
}
