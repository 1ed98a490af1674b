-- Single shots: a setup, and one message or its opening (RFC 9180, section 6.1).
use Rattle.std.specs.Prelude.{ℕ, List, Option, Some, None, Result, option_and_then}
use Rattle.std.specs.Option.{option_map}
use Rattle.hpke.specs.declared.error.HpkeError.{HpkeError}
use Rattle.hpke.specs.Answers.{Answers}
use Rattle.hpke.specs.Nonce.{nonce_of}
use Rattle.hpke.specs.Schedule.{Context}

-- what a sealed text opens to under the next number of a context, with associated data
abbrev pub opened_once : (List ℕ → List ℕ → List ℕ → List ℕ → Option (List ℕ)) → List ℕ → List ℕ → Context → Option (List ℕ)
opened_once open_of aad sealed context =
    option_and_then (λ number. open_of context.key (nonce_of context.base_nonce number) aad sealed) context.next

-- what a sender's setup, an encapsulated key and a context, makes of a text with associated data: that
-- key, and what the text is sealed to under the context's next number
abbrev pub sealed_once : (List ℕ → List ℕ → List ℕ → List ℕ → Option (List ℕ)) → List ℕ → List ℕ → List ℕ × Context → Option (List ℕ × List ℕ)
sealed_once seal_of aad text setup =
    option_and_then (λ number. option_map (λ sealed. (setup.0, sealed)) (seal_of setup.1.key (nonce_of setup.1.base_nonce number) aad text)) setup.1.next

-- The answer of a call that sets up a context and uses it once: the first error where the setup gives
-- none, and else as `Answers` says of what the call means in that setup. Want of memory is free.
abbrev pub SingleShotAnswers : {X Y S : Type 0} → (X → Y) → HpkeError → HpkeError → Result X HpkeError → Option S → (S → Option Y) → Type 0
SingleShotAnswers view first error result None meaning = Answers view first result None
SingleShotAnswers view first error result (Some setup) meaning = Answers view error result (meaning setup)
