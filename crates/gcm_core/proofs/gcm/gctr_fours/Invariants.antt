use Rattle.std.proofs.Common.{◌≡◌, ◌*◌, drop, take}
use Rattle.gcm_core.specs.Aes.{cipher}
use Rattle.gcm_core.specs.private.Counters.{counter_after}
use Rattle.gcm_core.specs.Gcm.{gctr_blocks}
use Rattle.gcm_core.proofs.gcm.gctr_fours.Given as goal

abbrev pub invariant-loop-i : goal.invariant-loop-i
invariant-loop-i l =
    (drop (64 * l.i) l.text ≡ drop (64 * l.i) l.fn.text)
    × (take (64 * l.i) l.text ≡ gctr_blocks (cipher l.round_keys) (4 * l.i) l.fn.counter (take (64 * l.i) l.fn.text))
    × (l.counter ≡ counter_after (4 * l.i) l.fn.counter)
