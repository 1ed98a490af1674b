use Rattle.std.proofs.Common.{◌-◌}
use Rattle.gcm_core.specs.Aes.{state_after}
use Rattle.gcm_core.specs.private.Nibbles.{IsChanged}
use Rattle.gcm_core.proofs.aes.cipher.Given as goal

abbrev pub invariant-loop-round : goal.invariant-loop-round
invariant-loop-round l = IsChanged (state_after l.round_keys l.fn.block (l.round - 1)) l.state
