-- What one send writes: the grease of two rolls, and a stanza.
use Rattle.std.specs.Prelude.{◌≡◌, ℕ, nat_lt, if◌then◌else◌, List, [], ◌∷◌, ◌++◌, codes, Option, Some, None, IsSome, IfSome, ◌⊎◌}
use Rattle.std.specs.List.{flat_map, AllByRecursion}
use Rattle.rand_core.specs.Stream.{Stream}
use Rattle.age_format.specs.Outside.{Wrote, WrotePart, GainsPart}
use Rattle.age_format.specs.Stanza.{Stanza, IsStanza, spelling}
use Rattle.age_send.specs.Grease.{Drawn, drawn_number, drawn_grease, IsGrease}

-- a roll: a number from 0 to 99, and where it is below 5 a grease stanza
unfoldable pub drawn_roll : Stream → Drawn (Option Stanza)
drawn_roll stream =
    let number = drawn_number 0 99 stream in
    let grease = drawn_grease number.1 in
    if nat_lt number.0 5 then (Some grease.0, grease.1) else (None, number.1)

-- the two rolls before a stanza
abbrev pub first_roll : Stream → Drawn (Option Stanza)
first_roll stream = drawn_roll stream

abbrev pub second_roll : Stream → Drawn (Option Stanza)
second_roll stream = drawn_roll (first_roll stream).1

-- what is written for a roll
abbrev pub rolled_text : Option Stanza → List ℕ
rolled_text None = []
rolled_text (Some grease) = spelling grease

-- the text behind the first roll's: what the second roll makes, and the stanza
unfoldable pub text_behind : Stanza → Stream → List ℕ
text_behind sent stream = rolled_text (second_roll stream).0 ++ spelling sent

-- the text of one send
unfoldable pub sent_text : Stanza → Stream → List ℕ
sent_text sent stream = rolled_text (first_roll stream).0 ++ text_behind sent stream

-- the stanza that ends what is sent
abbrev pub done : Stanza
done = record { tag = codes "done"; args = []; body = [] }

-- the stanza with this tag, these arguments and this body
abbrev pub stanza_with : List ℕ → List (List ℕ) → List ℕ → Stanza
stanza_with tag args body = record { tag = tag; args = args; body = body }

-- a stanza under a command: the command is the tag, and the arguments are metadata, the stanza's tag
-- and the stanza's arguments
abbrev pub under_command : List ℕ → List (List ℕ) → Stanza → Stanza
under_command command metadata s = record { tag = command; args = metadata ++ s.tag ∷ s.args; body = s.body }

module _ {W : Type 0} (got : W → Option (List ℕ)) (faults : W → ℕ) (plan : W → List ℕ) (before now : W) (stream rest : Stream) where
  -- no memory for the first roll's grease: nothing was written, and the grease was drawn to its end
  pub record RanOutInFirst : Type 0 where
    pub made : IsSome (first_roll stream).0
    pub wrote : Wrote got faults plan before now []
    pub stands : rest ≡ (first_roll stream).1

  -- no memory for the second roll's grease: the first roll's was written whole
  pub record RanOutInSecond : Type 0 where
    pub made : IsSome (second_roll stream).0
    pub wrote : Wrote got faults plan before now (rolled_text (first_roll stream).0)
    pub stands : rest ≡ (second_roll stream).1

  -- no memory for grease: only whole stanzas were written
  abbrev pub SendRanOut : Type 0
  SendRanOut = RanOutInFirst ⊎ RanOutInSecond

  -- the fault came in the first roll's grease
  pub record FaultInFirst : Type 0 where
    pub made : IsSome (first_roll stream).0
    pub gained : GainsPart (got before) (got now) (rolled_text (first_roll stream).0)
    pub stands : rest ≡ (first_roll stream).1

module _ {W : Type 0} (got : W → Option (List ℕ)) (faults : W → ℕ) (plan : W → List ℕ) (before now : W) (sent : Stanza) (stream rest : Stream) where
  -- exactly the text was written, and the stream stands behind the two rolls
  pub record Sent : Type 0 where
    pub wrote : Wrote got faults plan before now (sent_text sent stream)
    pub stands : rest ≡ (second_roll stream).1

  -- the fault came behind the first roll's text, which was written whole
  pub record FaultBehindFirst : Type 0 where
    pub gained : IfSome (got before) (λ had. GainsPart (Some (had ++ rolled_text (first_roll stream).0)) (got now) (text_behind sent stream))
    pub stands : rest ≡ (second_roll stream).1

  -- a fault of the sink: a part of the text was written
  pub record SendFailed : Type 0 where
    pub wrote : WrotePart got faults plan before now (sent_text sent stream)
    pub place : FaultInFirst got faults plan before now stream rest ⊎ FaultBehindFirst

-- a text is the spellings of grease stanzas, none or more, and then of this stanza
pub record AfterGrease (text : List ℕ) (sent : Stanza) : Type 0 where
  pub grease : List Stanza
  pub whole : text ≡ flat_map spelling grease ++ spelling sent
  pub each : AllByRecursion IsStanza grease
  pub each_is_grease : AllByRecursion IsGrease grease
  pub sent_is : IsStanza sent
