use Rattle.std.proofs.Common.{◌≡◌, ◌-◌, ◌*◌, ◌++◌, drop, length, take}
use Rattle.std.specs.Int.{div_ceil}
use Rattle.gcm_core.specs.Aes.{cipher}
use Rattle.gcm_core.specs.Gcm.{gctr, gctr_blocks}
use Rattle.gcm_core.proofs.gcm.gctr_rest.Given as goal

abbrev pub invariant-loop-i : goal.invariant-loop-i
invariant-loop-i l =
    take (16 * l.i) l.text ++ gctr_blocks (cipher l.round_keys) (div_ceil (length l.fn.text) 16 - l.i) l.counter (drop (16 * l.i) l.text)
    ≡ gctr (cipher l.round_keys) l.fn.icb l.fn.text
