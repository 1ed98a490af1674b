-- How a context answers a call that uses its next number (RFC 9180, section 5.2).
use Rattle.std.specs.Prelude.{ℕ, Option, Some, None, Result}
use Rattle.std.specs.Option.{option_and_then}
use Rattle.hpke.specs.declared.error.HpkeError.{HpkeError}
use Rattle.hpke.specs.declared.error.HpkeError.TheVariants.{MessageLimitReached}
use Rattle.hpke.specs.Answers.{Answers, AnswersExactly}
use Rattle.hpke.specs.Nonce.{number_after}
use Rattle.hpke.specs.Schedule.{Context}

-- The limit where no number is left, which takes no memory, and else what the call means under the next
-- number, or this error. There want of memory is free.
abbrev pub NumberedAnswers : {X Y : Type 0} → (X → Y) → HpkeError → Result X HpkeError → Option ℕ → (ℕ → Option Y) → Type 0
NumberedAnswers view error result None meaning = Answers view MessageLimitReached result None
NumberedAnswers view error result (Some number) meaning = Answers view error result (meaning number)

-- The same of a call that takes no memory: nothing is free.
abbrev pub NumberedExactly : {X Y : Type 0} → (X → Y) → HpkeError → Result X HpkeError → Option ℕ → (ℕ → Option Y) → Type 0
NumberedExactly view error result None meaning = AnswersExactly view MessageLimitReached result None
NumberedExactly view error result (Some number) meaning = AnswersExactly view error result (meaning number)

-- the context once its next number was used
abbrev pub used : Context → Context
used context = record context { next = option_and_then number_after context.next }
