use Rattle.std.proofs.Common.{ℕ, ◌<◌, All}
use Rattle.module_lattice.specs.Groups.{ungroup}
use Rattle.ml_kem.specs.Keys.{piece}
use Rattle.ml_kem.proofs.encapsulation_key.is_reduced.Given as goal

abbrev pub invariant-loop-i : goal.invariant-loop-i
invariant-loop-i l = (j : ℕ) → j < l.i → All (λ x. x < 3329) (ungroup 12 (piece 384 j l.bytes))
