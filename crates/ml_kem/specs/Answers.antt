-- How a call answers a meaning that is a value or none.
use Rattle.std.specs.Prelude.{◌≡◌, Option, Some, None, Result, Ok, Err}
use Rattle.ml_kem.specs.declared.error.KemError.{KemError}
use Rattle.ml_kem.specs.declared.error.KemError.TheVariants.{NoMemory, XofExhausted}

-- The answer, seen by `view`, is the meaning, and XofExhausted comes where the meaning is none. Want of
-- memory is free.
abbrev pub Answers : {X Y : Type 0} → (X → Y) → Result X KemError → Option Y → Type 0
Answers view (Ok x) meaning = meaning ≡ Some (view x)
Answers view (Err XofExhausted) meaning = meaning ≡ None
Answers view (Err NoMemory) meaning = Unit {0}
