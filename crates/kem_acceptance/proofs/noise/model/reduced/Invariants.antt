use Rattle.std.proofs.Common.{◌≡◌, ◌<◌, ℕ, get_or, length}
use Rattle.kem_acceptance.proofs.noise.model.reduced.Given as goal

abbrev pub invariant-loop-i : goal.invariant-loop-i
invariant-loop-i l = (length l.values ≡ 256) × ((k : ℕ) → k < l.i → get_or l.values k 0 < 3329)
