use Rattle.std.proofs.Common.{◌≡◌, ◌+◌, ◌-◌, ◌/◌, ◌^◌, ◌<◌, rules, take, [], ◌∷◌, ◌++◌, arith}
use Rattle.std.proofs.lemmas.List.{take_more_set, take_all}
use Rattle.std.proofs.lemmas.Nat.{one_shl}
use Rattle.bech32_long.specs.Groups.{number_of}
use Rattle.bech32_long.specs.private.Waiting.{IsReady}
use Rattle.bech32_long.proofs.Queues.{IsReady-held, IsReady-pulled, IsSplitting-done, IsSplitting-nil, IsSplitting-written, group-lt}
use Rattle.bech32_long.proofs.groups.write_groups.Goals as goal
use Rattle.bech32_long.proofs.groups.write_groups.Goals.{then-count-lt5, else-count-lt5}

pub loop-group-init : goal.loop-group-init
loop-group-init c = IsSplitting-nil

pub overflow_cast-group : goal.overflow_cast-group
overflow_cast-group c =
    let ready : IsReady (number_of 256 (take c.if-count-lt5.next (c.args.bytes.now ++ 0 ∷ []))) (take c.loop-group.group-index c.loop-group.out) c.loop-group.group-index c.if-count-lt5.next c.if-count-lt5.held c.if-count-lt5.count =
    elim c.if-count-lt5.branch [
      | then-count-lt5 w ↦ rw (w.held-is, w.count-is, w.next-is, w.byte_at.ensures) (IsReady-pulled c.args.bytes.now (take c.loop-group.group-index c.loop-group.out) c.loop-group.group-index c.loop-group.next c.loop-group.held c.loop-group.count (c.type_inv.bytes c.loop-group.next).fits (omega arith) w.if-count-lt5.true c.loop-group.invariant)
      | else-count-lt5 w ↦ rw (w.held-is, w.count-is, w.next-is) (IsReady-held (number_of 256 (take c.loop-group.next (c.args.bytes.now ++ 0 ∷ []))) (take c.loop-group.group-index c.loop-group.out) c.loop-group.group-index c.loop-group.next c.loop-group.held c.loop-group.count w.if-count-lt5.false c.loop-group.invariant)
    ] in
    let lt : c.if-count-lt5.held / 2 ^ (c.if-count-lt5.count - 5) < 32 = group-lt _ _ _ _ _ _ ready in
    search (rules, lt)

pub loop-group-preserved : goal.loop-group-preserved
loop-group-preserved c =
    let ready : IsReady (number_of 256 (take c.if-count-lt5.next (c.args.bytes.now ++ 0 ∷ []))) (take c.loop-group.group-index c.loop-group.out) c.loop-group.group-index c.if-count-lt5.next c.if-count-lt5.held c.if-count-lt5.count =
    elim c.if-count-lt5.branch [
      | then-count-lt5 w ↦ rw (w.held-is, w.count-is, w.next-is, w.byte_at.ensures) (IsReady-pulled c.args.bytes.now (take c.loop-group.group-index c.loop-group.out) c.loop-group.group-index c.loop-group.next c.loop-group.held c.loop-group.count (c.type_inv.bytes c.loop-group.next).fits (omega arith) w.if-count-lt5.true c.loop-group.invariant)
      | else-count-lt5 w ↦ rw (w.held-is, w.count-is, w.next-is) (IsReady-held (number_of 256 (take c.loop-group.next (c.args.bytes.now ++ 0 ∷ []))) (take c.loop-group.group-index c.loop-group.out) c.loop-group.group-index c.loop-group.next c.loop-group.held c.loop-group.count w.if-count-lt5.false c.loop-group.invariant)
    ] in
    let few : c.if-count-lt5.count < 13 = ready.few in
    let step : take (c.loop-group.group-index + 1) _ ≡ _ = take_more_set c.loop-group.out c.loop-group.group-index (c.if-count-lt5.held / 2 ^ (c.if-count-lt5.count - 5)) (omega arith) in
    rw (step, one_shl (c.if-count-lt5.count - 5) 32 (omega arith)) (IsSplitting-written _ _ _ _ _ _ ready)

pub returns-clause-value : goal.returns-clause-value
returns-clause-value c =
    let all : take c.loop-group.group-index c.loop-group.out ≡ c.loop-group.out = take_all c.loop-group.group-index c.loop-group.out (omega arith) in
    IsSplitting-done c.args.bytes.now c.loop-group.out c.loop-group.group-index c.loop-group.next c.loop-group.held c.loop-group.count (omega arith) (rw all at c.loop-group.invariant)

pub returns-clause-bound : goal.returns-clause-bound
returns-clause-bound c =
    let all : take c.loop-group.group-index c.loop-group.out ≡ c.loop-group.out = take_all c.loop-group.group-index c.loop-group.out (omega arith) in
    (rw all at c.loop-group.invariant).groups
