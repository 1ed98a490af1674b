use Rattle.std.proofs.Common.{◌≡◌, ◌+◌, ◌-◌, ◌*◌, ◌/◌, ◌^◌, ◌<◌, rules, length, take, get_or, arith}
use Rattle.std.proofs.lemmas.List.{take_all}
use Rattle.std.proofs.lemmas.Nat.{one_shl}
use Rattle.bech32_long.proofs.Queues.{IsJoining-nil, IsJoining-held, IsJoining-written, IsJoining-done, byte-lt}
use Rattle.bech32_long.proofs.groups.whole_bytes.Goals as goal
use Rattle.bech32_long.proofs.groups.whole_bytes.Goals.{then-count-ge8+in_ok-push, else-count-ge8}

pub loop-value-init : goal.loop-value-init
loop-value-init c = IsJoining-nil c.new-bytes.result.items c.new-bytes.ensures.items

pub overflow_cast-held-then-count-ge8 : goal.overflow_cast-held-then-count-ge8
overflow_cast-held-then-count-ge8 c =
    let lt : (c.loop-value.held * 32 + get_or c.args.values.now c.loop-value.value-index 0) / 2 ^ (c.loop-value.count + 5 - 8) < 256 =
    byte-lt c.args.values.now c.loop-value.bytes.items c.loop-value.value-index c.loop-value.held c.loop-value.count
    (c.requires c.loop-value.value-index 0 c.loop-value-test.true) c.if-count-ge8.true c.loop-value.invariant in
    search (rules, lt)

pub loop-value-preserved : goal.loop-value-preserved
loop-value-preserved c = elim c.if-count-ge8.branch [
  | then-count-ge8+in_ok-push w ↦ let few : c.loop-value.count < 8 = c.loop-value.invariant.few in
      rw (w.bytes-is, w.held-is, w.count-is, one_shl (c.loop-value.count + 5 - 8) 32 (omega arith)) (IsJoining-written c.args.values.now c.loop-value.bytes.items w.push.new.self.items c.loop-value.value-index c.loop-value.held c.loop-value.count c.loop-value-test.true
      (c.requires c.loop-value.value-index 0 c.loop-value-test.true) w.if-count-ge8.true w.in_ok-push.ensures.items c.loop-value.invariant)
  | else-count-ge8 w ↦ rw (w.bytes-is, w.held-is, w.count-is) (IsJoining-held c.args.values.now c.loop-value.bytes.items c.loop-value.value-index c.loop-value.held c.loop-value.count c.loop-value-test.true (c.requires c.loop-value.value-index 0 c.loop-value-test.true) w.if-count-ge8.false c.loop-value.invariant)
]

pub returns : goal.returns
returns c =
    let all : take c.loop-value.value-index c.args.values.now ≡ c.args.values.now = take_all c.loop-value.value-index c.args.values.now c.loop-value-test.false in
    let end : c.loop-value.value-index ≡ length c.args.values.now = omega arith in
    IsJoining-done c.args.values.now c.loop-value.bytes.items c.loop-value.held c.loop-value.count (rw (all, end) at c.loop-value.invariant)
