-- The stanzas of a mail.
use Rattle.std.specs.Prelude.{ℕ, ◌≤◌, List, length, Result, Ok, Err}
use Rattle.age_format.specs.Stanza.{Stanza}
use Rattle.age_format.specs.Reading.{Reads, Before_done, Invalid_data, Unexpected_eof, Too_much}
use Rattle.age_format.specs.declared.error.PhaseError.{PhaseError}
use Rattle.age_format.specs.declared.error.PhaseError.TheVariants.{NoMemory as PhaseNoMemory, WriteFault as PhaseWriteFault, ReadFault as PhaseReadFault, InvalidData as PhaseInvalidData, UnexpectedEof as PhaseUnexpectedEof, TooMuch as PhaseTooMuch, UnexpectedReply as PhaseUnexpectedReply}
use Rattle.kem_mail.specs.Taken.{IsShortBehindDone, StoppedBy}
use Rattle.kem_mail.specs.private.Answers.{emptied}
use Rattle.kem_mail.specs.private.Causes.{ComesOf}
use Rattle.kem_mail.specs.declared.error.MailError.{MailError}

-- the reading of a text for which a phase is refused
abbrev pub IsRefusedFor : PhaseError → List ℕ → ℕ → Type 0
IsRefusedFor PhaseNoMemory text budget = Unit {0}
IsRefusedFor PhaseWriteFault text budget = Unit {0}
IsRefusedFor PhaseReadFault text budget = Unit {0}
IsRefusedFor PhaseInvalidData text budget = Reads text budget Invalid_data
IsRefusedFor PhaseUnexpectedEof text budget = Reads text budget Unexpected_eof
IsRefusedFor PhaseTooMuch text budget = Reads text budget Too_much
IsRefusedFor (PhaseUnexpectedReply tag) text budget = Unit {0}

-- the reading of a text, or why there is none
abbrev pub IsRead : {X : Type 0} → (X → List Stanza) → List ℕ → ℕ → Result X MailError → Type 0
IsRead view text budget (Ok stanzas) = Reads text budget (Before_done (view stanzas))
IsRead view text budget (Err error) = (phase : PhaseError) × ComesOf phase error × IsRefusedFor phase text budget

-- what was taken of a mail for its stanzas, or for a refusal of them
pub record ReadTaken {X : Type 0} (budget : ℕ) (result : Result X MailError) (bytes : List ℕ) : Type 0 where
  pub within : length bytes ≤ budget
  pub behind : IsShortBehindDone bytes
  pub stopped : StoppedBy (emptied result) budget bytes
