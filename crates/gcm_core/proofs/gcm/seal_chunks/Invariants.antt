use Rattle.std.proofs.Common.{◌≡◌, ◌*◌, ◌^◌, ◌<◌, drop, take}
use Rattle.gcm_core.specs.Aes.{cipher}
use Rattle.gcm_core.specs.private.Counters.{counter_after}
use Rattle.gcm_core.specs.Gcm.{gctr_blocks}
use Rattle.gcm_core.specs.Ghash.{polynomials}
use Rattle.gcm_core.specs.private.Continued.{continued}
use Rattle.gcm_core.proofs.gcm.seal_chunks.Given as goal

abbrev pub invariant-loop-i : goal.invariant-loop-i
invariant-loop-i l =
    (drop (4096 * l.i) l.text ≡ drop (4096 * l.i) l.fn.text)
    × (take (4096 * l.i) l.text ≡ gctr_blocks (cipher l.round_keys) (256 * l.i) l.fn.counter (take (4096 * l.i) l.fn.text))
    × (l.counter ≡ counter_after (256 * l.i) l.fn.counter)
    × (l.sum ≡ continued l.key l.earlier (polynomials (256 * l.i) (take (4096 * l.i) l.text)))
    × (l.sum < 2 ^ 128)
