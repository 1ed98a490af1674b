use Rattle.bech32_long.specs.private.Lowered.{IsLoweredUpTo}
use Rattle.bech32_long.proofs.hrp.lowered.Given as goal

abbrev pub invariant-loop-i : goal.invariant-loop-i
invariant-loop-i l = IsLoweredUpTo l.text l.bytes l.i
