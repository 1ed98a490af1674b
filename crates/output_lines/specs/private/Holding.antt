-- What is held for a sink and handed over.
use Rattle.std.specs.Prelude.{◌≡◌, ℕ, List, ◌++◌, Option, Result, MatchResult}
use Rattle.age_format.specs.Outside.{Wrote, WrotePart}

-- the front of what was held and of this output was written, and the rest is held
abbrev pub Hands : {W : Type 0} → (W → Option (List ℕ)) → (W → ℕ) → (W → List ℕ) → W → W → List ℕ → List ℕ → List ℕ → Type 0
Hands got faults plan before now held left output = (written : List ℕ) × Wrote got faults plan before now written × (held ++ output ≡ written ++ left)

-- a call that appends the output to what is held: where the sink failed, a part of both was written
abbrev pub Passes : {W A E : Type 0} → (W → Option (List ℕ)) → (W → ℕ) → (W → List ℕ) → W → W → List ℕ → List ℕ → Result A E → List ℕ → Type 0
Passes got faults plan before now held left result output =
    MatchResult result (λ _. Hands got faults plan before now held left output) (λ _. WrotePart got faults plan before now (held ++ output))
