use Rattle.std.proofs.Common.{◌≡◌, ◌-◌, ◌*◌, take}
use Rattle.gcm_core.specs.Aes.{schedule}
use Rattle.gcm_core.proofs.aes.expand_key.Given as goal

abbrev pub invariant-loop-i : goal.invariant-loop-i
invariant-loop-i l = take (4 * l.i) l.round_keys ≡ schedule l.key_words l.key (l.i - l.key_words)
