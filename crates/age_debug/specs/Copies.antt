-- What a copy's sink gets.
use Rattle.std.specs.Prelude.{◌⊎◌, ℕ, List, Option, Some, None}
use Rattle.age_format.specs.Outside.{Wrote, WrotePart}

-- a sink got these bytes, or, where it failed, a part of them, from their front
abbrev pub Copied : {T : Type 0} → (T → Option (List ℕ)) → (T → ℕ) → (T → List ℕ) → T → T → List ℕ → Type 0
Copied got faults plan before now bytes = Wrote got faults plan before now bytes ⊎ WrotePart got faults plan before now bytes

-- the same of a copy that may be off, and stays so
abbrev pub Copies : {T : Type 0} → (T → Option (List ℕ)) → (T → ℕ) → (T → List ℕ) → Option T → Option T → List ℕ → Type 0
Copies got faults plan None None bytes = Unit {0}
Copies got faults plan None (Some now) bytes = ⊥
Copies got faults plan (Some before) None bytes = ⊥
Copies got faults plan (Some before) (Some now) bytes = Copied got faults plan before now bytes
