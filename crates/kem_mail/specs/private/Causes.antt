-- Which error of a mail comes of a refusal to receive or to send.
use Rattle.std.specs.Prelude.{◌≡◌, Result, Ok, Err}
use Rattle.age_format.specs.declared.error.PhaseError.{PhaseError}
use Rattle.age_format.specs.declared.error.PhaseError.TheVariants.{NoMemory as PhaseNoMemory, WriteFault as PhaseWriteFault, ReadFault as PhaseReadFault, InvalidData as PhaseInvalidData, UnexpectedEof as PhaseUnexpectedEof, TooMuch as PhaseTooMuch, UnexpectedReply as PhaseUnexpectedReply}
use Rattle.kem_mail.specs.declared.error.SealMailError.{SealMailError}
use Rattle.kem_mail.specs.declared.error.SealMailError.TheVariants.{NoMemory as SealNoMemory, WriteFault as SealWriteFault}
use Rattle.kem_mail.specs.declared.error.MailError.{MailError}
use Rattle.kem_mail.specs.declared.error.MailError.TheVariants.{NoMemory, ReadFault, InvalidData, UnexpectedEof, TooMuch}

-- a call that only receives was refused so; it has no fault of a sink and no reply
abbrev pub ComesOf : PhaseError → MailError → Type 0
ComesOf PhaseNoMemory error = error ≡ NoMemory
ComesOf PhaseWriteFault error = ⊥
ComesOf PhaseReadFault error = error ≡ ReadFault
ComesOf PhaseInvalidData error = error ≡ InvalidData
ComesOf PhaseUnexpectedEof error = error ≡ UnexpectedEof
ComesOf PhaseTooMuch error = error ≡ TooMuch
ComesOf (PhaseUnexpectedReply tag) error = ⊥

-- of a send; one that has no memory is refused so, and it has no fault of a source
abbrev pub of_send : {X : Type 0} → Result X PhaseError → Result X SealMailError
of_send (Ok x) = Ok x
of_send (Err PhaseWriteFault) = Err SealWriteFault
of_send (Err error) = Err SealNoMemory
