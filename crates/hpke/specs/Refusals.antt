-- When bytes from outside are refused as a value.
use Rattle.std.specs.Prelude.{◌≡◌, ◌≢◌, ℕ}
use Rattle.hpke.specs.declared.error.HpkeError.{HpkeError}
use Rattle.hpke.specs.declared.error.HpkeError.TheVariants.{NoMemory, MessageLimitReached, OpenError, SealError, KdfOutputTooLong, ValidationError, EncapError, DecapError, IncorrectInputLength}

-- Bytes of the length `given`, for a type whose values have `expected` bytes, are refused by this
-- error: first for another length, then where no value has them. Want of memory is free where the
-- length is right and the reading takes memory.
abbrev pub IsRefusal : Type 0 → ℕ → ℕ → Type 0 → HpkeError → Type 0
IsRefusal takes_memory expected given has_value NoMemory = takes_memory × (given ≡ expected)
IsRefusal takes_memory expected given has_value (IncorrectInputLength e g) = (given ≢ expected) × (e ≡ expected) × (g ≡ given)
IsRefusal takes_memory expected given has_value ValidationError = (given ≡ expected) × (has_value → ⊥)
IsRefusal takes_memory expected given has_value MessageLimitReached = ⊥
IsRefusal takes_memory expected given has_value OpenError = ⊥
IsRefusal takes_memory expected given has_value SealError = ⊥
IsRefusal takes_memory expected given has_value KdfOutputTooLong = ⊥
IsRefusal takes_memory expected given has_value EncapError = ⊥
IsRefusal takes_memory expected given has_value DecapError = ⊥

-- the error is want of memory, or this one
abbrev pub IsMemoryOr : HpkeError → HpkeError → Type 0
IsMemoryOr other NoMemory = Unit {0}
IsMemoryOr other error = error ≡ other
