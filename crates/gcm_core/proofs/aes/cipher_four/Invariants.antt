use Rattle.std.proofs.Common.{◌-◌}
use Rattle.gcm_core.specs.Aes.{state_after}
use Rattle.gcm_core.specs.private.Nibbles.{IsChanged}
use Rattle.gcm_core.proofs.aes.cipher_four.Given as goal

abbrev pub invariant-loop-round : goal.invariant-loop-round
invariant-loop-round l =
    IsChanged (state_after l.round_keys l.fn.a (l.round - 1)) l.a × IsChanged (state_after l.round_keys l.fn.b (l.round - 1)) l.b
    × IsChanged (state_after l.round_keys l.fn.c (l.round - 1)) l.c × IsChanged (state_after l.round_keys l.fn.d (l.round - 1)) l.d
