-- How a call answers a meaning that is a value or none.
use Rattle.std.specs.Prelude.{◌≡◌, ℕ, List, Option, Some, None, Result, Ok, Err}
use Rattle.hpke.specs.declared.error.HpkeError.{HpkeError}
use Rattle.hpke.specs.declared.error.HpkeError.TheVariants.{NoMemory}
use Rattle.hpke.specs.Refusals.{IsMemoryOr}

-- The answer, seen by `view`, is the meaning; where the meaning is none, it is this error.
-- Want of memory is free.
abbrev pub Answers : {X Y : Type 0} → (X → Y) → HpkeError → Result X HpkeError → Option Y → Type 0
Answers view error (Ok x) meaning = meaning ≡ Some (view x)
Answers view error (Err e) None = IsMemoryOr error e
Answers view error (Err e) (Some y) = e ≡ NoMemory

-- The same of a call that takes no memory: nothing is free.
abbrev pub AnswersExactly : {X Y : Type 0} → (X → Y) → HpkeError → Result X HpkeError → Option Y → Type 0
AnswersExactly view error (Ok x) meaning = meaning ≡ Some (view x)
AnswersExactly view error (Err e) None = e ≡ error
AnswersExactly view error (Err e) (Some y) = ⊥

-- a pair of keys where both are there
abbrev pub both : Option (List ℕ) → Option (List ℕ) → Option (List ℕ × List ℕ)
both (Some sk) (Some pk) = Some (sk, pk)
both (Some sk) None = None
both None pk = None
