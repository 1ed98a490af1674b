-- What a run took of its source.
use Rattle.std.specs.Prelude.{◌≡◌, ◌≢◌, ℕ, ◌+◌, ◌<◌, ◌≤◌, List, [], ◌++◌, length, take, None, Ok, Err, ◌⊎◌}
use Rattle.kem_hash.specs.Family.{Family}
use Rattle.ml_kem.specs.Keys.{key_of}
use Rattle.mail_commands.specs.Command.{parameters}
use Rattle.mail_commands.specs.Input.{IsHead, IsSeedLine, IsPart, FailsAt, Begins, EndsInside, StopsAt}
use Rattle.kem_mail.specs.Mail.{Verdict}
use Rattle.mail_commands.specs.Due.{IsInput, Outcome, key_verdict, of_verdict}
use Rattle.mail_commands.specs.declared.command.Command.{Command}
use Rattle.mail_commands.specs.declared.command.Command.TheVariants.{Open, Key, Seal, Gen}
use Rattle.kem_mail.specs.declared.error.MailError.TheVariants.{NoMemory, XofExhausted, ReadFault, UnexpectedEof}
use Rattle.mail_commands.specs.declared.error.RunError.{RunError}
use Rattle.mail_commands.specs.declared.error.RunError.TheVariants.{Place, Ended, InvalidKey, Mail}
use Rattle.kem_mail.specs.Taken.{IsShortBehindDone, IsTaken}

-- no byte was taken behind the one that decides: all that stands before the last byte is a proper prefix
-- of an input
abbrev pub StopsWithin : (List ℕ → Type 0) → List ℕ → Type 0
StopsWithin Is bytes = (n : ℕ) → n < length bytes → IsPart Is (take n bytes)

-- what was taken of an input of a kind that was refused: up to the byte that can't stand there, to the
-- end or the fault of the source, or to where memory ran out
abbrev pub InputTakes : (List ℕ → Type 0) → RunError → List ℕ → Type 0
InputTakes Is (Place place) bytes = (length bytes ≡ place + 1) × FailsAt Is bytes place
InputTakes Is Ended bytes = IsPart Is bytes
InputTakes Is InvalidKey bytes = ⊥
InputTakes Is (Mail error) bytes = ((error ≡ NoMemory) × StopsWithin Is bytes) ⊎ ((error ≡ ReadFault) × IsPart Is bytes)

-- no byte was taken behind the one that decides, of inputs of which one may begin another: all that stands
-- before the last byte begins an input
abbrev pub Reaches : (List ℕ → Type 0) → List ℕ → Type 0
Reaches Is bytes = (n : ℕ) → n < length bytes → Begins Is (take n bytes)

-- what was taken of such an input that was refused
abbrev pub OpenTakes : (List ℕ → Type 0) → RunError → List ℕ → Type 0
OpenTakes Is (Place place) bytes = (length bytes ≡ place + 1) × StopsAt Is bytes place
OpenTakes Is Ended bytes = EndsInside Is bytes
OpenTakes Is InvalidKey bytes = ⊥
OpenTakes Is (Mail error) bytes = ((error ≡ NoMemory) × Reaches Is bytes) ⊎ ((error ≡ ReadFault) × Begins Is bytes)

-- what was taken of a command's input that was refused
abbrev pub RefusalTakes : Command → RunError → List ℕ → Type 0
RefusalTakes (Seal suite) error bytes = OpenTakes (IsInput (Seal suite)) error bytes
RefusalTakes command error bytes = InputTakes (IsInput command) error bytes

-- What was taken of a whole input and behind it: of the mail behind a head nothing where the seed gives no
-- key, which then is the answer, unless memory runs out; nothing behind the line of `key`; for `seal` all that there
-- was; and nothing for `gen`, which never ends with a fault of the source.
abbrev pub WholeTakes : Family → Command → Outcome → List ℕ → Type 0
WholeTakes family (Open suite budget) outcome bytes = (head mail seed info : List ℕ) × (verdict : Verdict) × (bytes ≡ head ++ mail) × IsHead head seed info
    × (key_of (parameters suite.set) family seed ≡ None → (mail ≡ []) × ((verdict ≡ Err XofExhausted) ⊎ (verdict ≡ Err NoMemory)))
    × IsTaken budget verdict mail × (outcome ≡ of_verdict verdict)
WholeTakes family (Key set) outcome bytes = (seed : List ℕ) × IsSeedLine bytes seed
    × ((outcome ≡ of_verdict (key_verdict (key_of (parameters set) family seed))) ⊎ (outcome ≡ Err (Mail NoMemory)))
WholeTakes family (Seal suite) outcome bytes = IsInput (Seal suite) bytes
WholeTakes family (Gen count) outcome bytes = (bytes ≡ []) × (outcome ≢ Err (Mail ReadFault))

-- what a run of a command took, by what it ended with
abbrev pub Takes : Family → Command → Outcome → List ℕ → Type 0
Takes family command (Ok items) bytes = WholeTakes family command (Ok items) bytes
Takes family command (Err (Place place)) bytes = RefusalTakes command (Place place) bytes
Takes family command (Err Ended) bytes = RefusalTakes command Ended bytes
Takes family command (Err InvalidKey) bytes = WholeTakes family command (Err InvalidKey) bytes
Takes family command (Err (Mail error)) bytes = RefusalTakes command (Mail error) bytes ⊎ WholeTakes family command (Err (Mail error)) bytes

-- the most that a run of a command takes, whatever it ends with: a part of its input up to the byte that
-- decides, or the whole head of `open` and of the mail behind it at most the budget, and at most 4095
-- bytes behind its first `done`; and nothing for `gen`
abbrev pub MostTakes : Command → List ℕ → Type 0
MostTakes (Open suite budget) bytes = StopsWithin (IsInput (Open suite budget)) bytes
    ⊎ ((head mail : List ℕ) × (bytes ≡ head ++ mail) × IsInput (Open suite budget) head × (length mail ≤ budget) × IsShortBehindDone mail)
MostTakes (Key set) bytes = StopsWithin (IsInput (Key set)) bytes
MostTakes (Seal suite) bytes = Reaches (IsInput (Seal suite)) bytes
MostTakes (Gen count) bytes = bytes ≡ []

-- an outcome that says that the source is at its end; for `seal` each that comes of a whole input does
abbrev pub IsAtEnd : Command → Outcome → Type 0
IsAtEnd (Seal suite) outcome = (outcome ≡ Err Ended) ⊎ ((outcome ≡ Err InvalidKey) ⊎ ((outcome ≡ Err (Mail XofExhausted)) ⊎ ((items : List (List ℕ)) × (outcome ≡ Ok items))))
IsAtEnd (Gen count) outcome = ⊥
IsAtEnd command outcome = (outcome ≡ Err Ended) ⊎ (outcome ≡ Err (Mail UnexpectedEof))
