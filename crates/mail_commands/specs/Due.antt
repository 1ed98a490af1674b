-- What a command ends with over the bytes that its source tells, and what a run owes for them: a status
-- and an output.
use Rattle.std.specs.List.{concat}
use Rattle.std.specs.Prelude.{◌≡◌, ℕ, List, [], ◌∷◌, ◌++◌, Option, Some, None, Result, Ok, Err, ◌⊎◌}
use Rattle.kem_hash.specs.Family.{Family}
use Rattle.ml_kem.specs.Keys.{IsEncapsulationKey, Key as KeyRecord, key_of, rho_part}
use Rattle.ml_kem.specs.Matrix.{matrix}
use Rattle.ml_kem.specs.Parameters.{Parameters}
use Rattle.hpke.specs.Schedule.{KdfAlgorithm, AeadAlgorithm}
use Rattle.mail_commands.specs.Command.{Spells, parameters, kdf_algorithm, aead_algorithm, aead_open, aead_seal, input_word}
use Rattle.mail_commands.specs.Input.{IsHead, IsHeadText, IsLineText, IsSeedLine, IsSealInput, IsSealText, IsPart, FailsAt, EndsInside, StopsAt, seed_digits}
use Rattle.output_lines.specs.Lines.{lines}
use Rattle.mail_commands.specs.Lines.{error_line, no_command_line}
use Rattle.kem_mail.specs.Mail.{Verdict, OpensByKey}
use Rattle.kem_mail.specs.Sealing.{SealMeaning, lattice_sealer}
use Rattle.kem_mail.specs.Sent.{mail_text}
use Rattle.generated_mail.specs.Made.{source_stream}
use Rattle.generated_mail.specs.Told.{Generates}
use Rattle.mail_commands.specs.declared.command.Command.{Command}
use Rattle.mail_commands.specs.declared.command.SuiteName.{SuiteName}
use Rattle.mail_commands.specs.declared.command.Command.TheVariants.{Open, Key, Seal, Gen}
use Rattle.kem_mail.specs.declared.error.MailError.TheVariants.{NoMemory, ReadFault, XofExhausted}
use Rattle.mail_commands.specs.declared.error.RunError.{RunError}
use Rattle.mail_commands.specs.declared.error.RunError.TheVariants.{Place, Ended, InvalidKey, Mail}

-- the whole inputs of a command: the head of a mail for `open`, the line of a seed for `key`, and for `seal`
-- all that is sealed; `gen` reads nothing
abbrev pub IsInput : Command → List ℕ → Type 0
IsInput (Open suite budget) text = IsHeadText text
IsInput (Key set) text = IsLineText seed_digits seed_digits text
IsInput (Seal suite) text = IsSealText (parameters suite.set).ek_size text
IsInput (Gen count) text = text ≡ []

-- a byte can't stand at this place of a command's input; only of `seal` may one input begin another
abbrev pub Fails : Command → List ℕ → ℕ → Type 0
Fails (Seal suite) text place = StopsAt (IsInput (Seal suite)) text place
Fails command text place = FailsAt (IsInput command) text place

-- the text ends inside a command's input
abbrev pub Ends : Command → List ℕ → Type 0
Ends (Seal suite) text = EndsInside (IsInput (Seal suite)) text
Ends command text = IsPart (IsInput command) text

-- what a command ends with: its items, or why it wrote none
abbrev pub Outcome : Type 0
Outcome = Result (List (List ℕ)) RunError

-- what a mail or a key comes to, as an outcome
abbrev pub of_verdict : Verdict → Outcome
of_verdict (Ok items) = Ok items
of_verdict (Err error) = Err (Mail error)

-- what `key` writes: the encapsulation key of a seed, where the seed gives a key
abbrev pub key_verdict : Option KeyRecord → Verdict
key_verdict None = Err XofExhausted
key_verdict (Some key) = Ok (key.ek ∷ [])

-- the text of a mail, where the matrix of its key is there
abbrev pub mail_outcome : {A : Type 0} → Option A → List ℕ → Outcome
mail_outcome None text = Err (Mail XofExhausted)
mail_outcome (Some a) text = Ok (text ∷ [])

-- What the input of `seal` comes to: a key that FIPS 203, section 7.2, refuses is refused, and to another the
-- mail is sealed that the random source draws.
pub record Seals (set : Parameters) (family : Family) (kdf : KdfAlgorithm) (aead : AeadAlgorithm) (meaning : SealMeaning) (key info source : List ℕ) (messages : List (List ℕ)) (outcome : Outcome) : Type 0 where
  pub refused : (IsEncapsulationKey set key → ⊥) → outcome ≡ Err InvalidKey
  pub sealed : IsEncapsulationKey set key
      → outcome ≡ mail_outcome (matrix family set.k (rho_part set key)) (mail_text (lattice_sealer set family kdf aead meaning key info) messages (source_stream source))

-- what a command comes to over a text that begins with its whole input; for `seal` the text is the input
abbrev pub ComesTo : Family → Command → List ℕ → Outcome → Type 0
ComesTo family (Open suite budget) text outcome = (head seed info rest : List ℕ) × (verdict : Verdict) × (text ≡ head ++ rest) × IsHead head seed info
    × OpensByKey (parameters suite.set) family (kdf_algorithm suite.kdf) (aead_algorithm suite.aead) (aead_open suite.aead) seed info rest budget verdict × (outcome ≡ of_verdict verdict)
ComesTo family (Key set) text outcome = (line seed rest : List ℕ) × (text ≡ line ++ rest) × IsSeedLine line seed
    × (outcome ≡ of_verdict (key_verdict (key_of (parameters set) family seed)))
ComesTo family (Seal suite) text outcome = (key info source : List ℕ) × (messages : List (List ℕ)) × IsSealInput (parameters suite.set).ek_size text key info source messages
    × Seals (parameters suite.set) family (kdf_algorithm suite.kdf) (aead_algorithm suite.aead) (aead_seal suite.aead) key info source messages outcome
ComesTo family (Gen count) text outcome = (told : Verdict) × Generates family count told × (outcome ≡ of_verdict told)

-- a text begins with a head, and behind it a mail of this suite that opens to these messages
abbrev pub HoldsMail : Family → SuiteName → ℕ → List ℕ → List (List ℕ) → Type 0
HoldsMail family suite budget text messages = ComesTo family (Open suite budget) text (Ok messages)

-- A command ends with this over a text: a byte can't stand in its input, or the text ends inside the
-- input; and else with what it comes to.
abbrev pub EndsWith : Family → Command → List ℕ → Outcome → Type 0
EndsWith family command text (Ok items) = ComesTo family command text (Ok items)
EndsWith family command text (Err (Place place)) = Fails command text place
EndsWith family command text (Err Ended) = Ends command text
EndsWith family command text (Err InvalidKey) = ComesTo family command text (Err InvalidKey)
EndsWith family command text (Err (Mail error)) = ComesTo family command text (Err (Mail error))

-- the status of an outcome
abbrev pub outcome_status : Outcome → ℕ
outcome_status (Ok items) = 0
outcome_status (Err (Mail NoMemory)) = 6
outcome_status (Err (Mail ReadFault)) = 4
outcome_status (Err error) = 3

-- what a command writes of its items: each in digits as a line; the text of a mail, and the lines of `gen`, as
-- they are
abbrev pub items_output : Command → List (List ℕ) → List ℕ
items_output (Seal suite) items = concat items
items_output (Gen count) items = concat items
items_output command items = lines items

-- the output of an outcome
abbrev pub outcome_output : Command → Outcome → List ℕ
outcome_output command (Ok items) = items_output command items
outcome_output command (Err error) = error_line (input_word command) error

-- a status that says what is owed
abbrev pub IsAnswer : ℕ → Type 0
IsAnswer status = (status ≡ 0) ⊎ ((status ≡ 2) ⊎ (status ≡ 3))

-- the words spell a command, and the status and the output are those of what it ends with
pub record IsEnded (family : Family) (words : List (List ℕ)) (text : List ℕ) (status : ℕ) (output : List ℕ) : Type 0 where
  pub command : Command
  pub spelled : Spells words command
  pub outcome : Outcome
  pub ends_with : EndsWith family command text outcome
  pub status_is : status ≡ outcome_status outcome
  pub output_is : output ≡ outcome_output command outcome

-- the words spell no command
pub record IsNoCommand (words : List (List ℕ)) (status : ℕ) (output : List ℕ) : Type 0 where
  pub no_command : (command : Command) → Spells words command → ⊥
  pub status_is : status ≡ 2
  pub output_is : output ≡ no_command_line

-- what is owed
abbrev pub Due : Family → List (List ℕ) → List ℕ → ℕ → List ℕ → Type 0
Due family words text status output = IsEnded family words text status output ⊎ IsNoCommand words status output
