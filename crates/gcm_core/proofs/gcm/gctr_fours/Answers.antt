use Rattle.std.proofs.Common.{◌≡◌, ◌+◌, ◌-◌, ◌*◌, [], refl, sym, arith}
use Rattle.gcm_core.specs.Aes.{cipher}
use Rattle.gcm_core.specs.private.Counters.{counter_after}
use Rattle.gcm_core.proofs.Stream.{gctr_blocks-none, gctr_fours-step}
use Rattle.gcm_core.proofs.gcm.gctr_fours.Goals as goal

pub loop-i-init : goal.loop-i-init
unfolding counter_after
loop-i-init c = (refl, sym (gctr_blocks-none (cipher c.args.round_keys.now) c.args.counter.now []), refl)

pub loop-i-preserved : goal.loop-i-preserved
loop-i-preserved c =
    let i = c.loop-i.i in
    let e : 64 * i + 64 - 64 * i ≡ 64 = omega arith in
    gctr_fours-step (cipher c.args.round_keys.now) i (64 * i + 64 - 64 * i) c.args.counter.now c.loop-i.counter c.gctr_four.new.counter c.args.text.now c.loop-i.text c.gctr_four.new.text
    (omega arith) e (omega arith) c.loop-i.invariant.0 c.loop-i.invariant.1 c.loop-i.invariant.2 (omega (arith, c.gctr_four.auto.text)) c.gctr_four.ensures.text c.gctr_four.ensures.counter
