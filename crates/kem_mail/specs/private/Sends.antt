-- What sends in turn come to.
use Rattle.std.specs.Prelude.{◌≡◌, ℕ, List, Option, Some, None, Result, Ok, Err}
use Rattle.rand_core.specs.Stream.{Stream}
use Rattle.age_format.specs.Stanza.{Stanza}
use Rattle.kem_mail.specs.Sent.{SentAll, FailedAt, RanOutAt}
use Rattle.kem_mail.specs.declared.error.SealMailError.{SealMailError}
use Rattle.kem_mail.specs.declared.error.SealMailError.TheVariants.{NoMemory, XofExhausted, SealError, WriteFault}

module _ {W : Type 0} (got : W → Option (List ℕ)) (faults : W → ℕ) (plan : W → List ℕ) (before now : W) (stanzas : List Stanza) (stream rest : Stream) where
  -- the stanzas were sent, up to a message of this number that can't be sealed, if there is one
  pub record SentBefore (unsealed number : Option ℕ) : Type 0 where
    pub ends : unsealed ≡ number
    pub sent : SentAll got faults plan before now stanzas stream rest

  -- a call that sends stanzas, which end before a message of this number that can't be sealed, if there is one
  abbrev pub Sends : {X : Type 0} → Option ℕ → Result X SealMailError → Type 0
  Sends unsealed (Ok x) = SentBefore unsealed None
  Sends unsealed (Err (SealError number)) = SentBefore unsealed (Some number)
  Sends unsealed (Err WriteFault) = FailedAt got faults plan before now stanzas stream rest
  Sends unsealed (Err NoMemory) = RanOutAt got faults plan before now stanzas stream rest
  Sends unsealed (Err XofExhausted) = ⊥
