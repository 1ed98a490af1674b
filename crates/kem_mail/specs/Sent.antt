-- Stanzas that are sent in turn, and how a mail is sent.
use Rattle.std.specs.Prelude.{◌≡◌, ◌≢◌, ◌⊎◌, ℕ, zero, suc, List, [], ◌∷◌, ◌++◌, length, Option, Some, None, Result, Ok, Err}
use Rattle.std.specs.List.{flat_map, AllByRecursion}
use Rattle.rand_core.specs.Stream.{Stream, fill_bytes}
use Rattle.age_format.specs.Outside.{Wrote, WrotePart}
use Rattle.age_format.specs.Stanza.{Stanza, IsStanza, spelling}
use Rattle.age_send.specs.Sending.{AfterGrease, SendFailed, SendRanOut, second_roll, sent_text}
use Rattle.kem_mail.specs.Sealing.{Sealer, first_unsealed, mail_stanzas}
use Rattle.kem_mail.specs.declared.error.SealMailError.{SealMailError}
use Rattle.kem_mail.specs.declared.error.SealMailError.TheVariants.{NoMemory, XofExhausted, SealError, WriteFault}

-- what sending these stanzas in turn writes, each with the grease of its rolls before it
unfoldable pub stanzas_text : List Stanza → Stream → List ℕ
stanzas_text [] stream = []
stanzas_text (s ∷ ss) stream = sent_text s stream ++ stanzas_text ss (second_roll stream).1

-- where the random source stands behind so many sends
unfoldable pub behind_sends : ℕ → Stream → Stream
behind_sends zero stream = stream
behind_sends (suc n) stream = behind_sends n (second_roll stream).1

-- each send's text is grease and then its stanza
unfoldable pub AllAfterGrease : List Stanza → Stream → Type 0
AllAfterGrease [] stream = Unit {0}
AllAfterGrease (s ∷ ss) stream = AfterGrease (sent_text s stream) s × AllAfterGrease ss (second_roll stream).1

-- a text is the spellings of stanzas, none or more
pub record AreStanzas (text : List ℕ) : Type 0 where
  pub stanzas : List Stanza
  pub each : AllByRecursion IsStanza stanzas
  pub spelled : text ≡ flat_map spelling stanzas

module _ {W : Type 0} (got : W → Option (List ℕ)) (faults : W → ℕ) (plan : W → List ℕ) (before now : W) (stanzas : List Stanza) (stream rest : Stream) where
  -- all of the stanzas were sent
  pub record SentAll : Type 0 where
    pub wrote : Wrote got faults plan before now (stanzas_text stanzas stream)
    pub stands : rest ≡ behind_sends (length stanzas) stream
    pub greased : AllAfterGrease stanzas stream

  -- a fault of the sink: a part of the text was written, and the fault came in the send of one of the stanzas,
  -- with those before it sent
  pub record FailedAt : Type 0 where
    pub wrote : WrotePart got faults plan before now (stanzas_text stanzas stream)
    pub sent : List Stanza
    pub next : Stanza
    pub unsent : List Stanza
    pub parts : stanzas ≡ sent ++ next ∷ unsent
    pub between : W
    pub wrote_sent : Wrote got faults plan before between (stanzas_text sent stream)
    pub failed : SendFailed got faults plan between now next (behind_sends (length sent) stream) rest

  -- behind these stanzas memory ran out: between two sends, or for the grease of the next
  abbrev pub StopsBehind : List Stanza → List Stanza → W → Type 0
  StopsBehind sent unsent between =
      (Wrote got faults plan between now [] × (rest ≡ behind_sends (length sent) stream))
      ⊎ ((unsent ≢ []) × SendRanOut got faults plan between now (behind_sends (length sent) stream) rest)

  -- no memory: exactly a part of the text was written, which is whole stanzas, and each send before was grease and
  -- then its stanza
  pub record RanOutAt : Type 0 where
    pub part : List ℕ
    pub more : List ℕ
    pub whole : stanzas_text stanzas stream ≡ part ++ more
    pub wrote : Wrote got faults plan before now part
    pub sent : List Stanza
    pub unsent : List Stanza
    pub parts : stanzas ≡ sent ++ unsent
    pub between : W
    pub wrote_sent : Wrote got faults plan before between (stanzas_text sent stream)
    pub greased : AllAfterGrease sent stream
    pub stopped : StopsBehind sent unsent between

-- the text of a mail, by what is drawn: 32 bytes for the encapsulated key, and then the rolls of each send;
-- it ends before the first message that can't be sealed
abbrev pub mail_text : Sealer → List (List ℕ) → Stream → List ℕ
mail_text sealer messages stream = stanzas_text (mail_stanzas sealer messages (fill_bytes 32 stream).0) (fill_bytes 32 stream).1

module _ {W : Type 0} (got : W → Option (List ℕ)) (faults : W → ℕ) (plan : W → List ℕ) (before now : W) (sealer : Sealer) (messages : List (List ℕ)) (stream rest : Stream) where
  -- nothing was drawn or written
  pub record Untouched : Type 0 where
    pub wrote : Wrote got faults plan before now []
    pub stands : rest ≡ stream

  -- the stanzas of the mail were sent, and this message is the first that can't be sealed
  pub record SentUpTo (number : Option ℕ) : Type 0 where
    pub has_key : sealer.setup_of (fill_bytes 32 stream).0 ≢ None
    pub sealed : first_unsealed sealer messages (fill_bytes 32 stream).0 ≡ number
    pub sent : SentAll got faults plan before now (mail_stanzas sealer messages (fill_bytes 32 stream).0) (fill_bytes 32 stream).1 rest

  -- how the call that seals and sends a mail ends
  abbrev pub SealsMail : {X : Type 0} → Result X SealMailError → Type 0
  SealsMail (Ok x) = SentUpTo None
  SealsMail (Err (SealError number)) = SentUpTo (Some number)
  SealsMail (Err WriteFault) = FailedAt got faults plan before now (mail_stanzas sealer messages (fill_bytes 32 stream).0) (fill_bytes 32 stream).1 rest
  SealsMail (Err NoMemory) = Untouched ⊎ RanOutAt got faults plan before now (mail_stanzas sealer messages (fill_bytes 32 stream).0) (fill_bytes 32 stream).1 rest
  SealsMail (Err XofExhausted) = Untouched
