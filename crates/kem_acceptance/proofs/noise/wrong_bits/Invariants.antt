use Rattle.std.proofs.Common.{◌≤◌}
use Rattle.kem_acceptance.proofs.noise.wrong_bits.Given as goal

abbrev pub invariant-loop-i : goal.invariant-loop-i
invariant-loop-i l = l.wrong ≤ l.i
