use Rattle.std.proofs.Common.{All, ◌<◌}
use Rattle.ring_acceptance.proofs.polynomials.pairs.Given as goal

abbrev pub invariant-loop-i : goal.invariant-loop-i
invariant-loop-i l = All (λ x. x < 3329) l.values
