-- What was taken of a source.
use Rattle.std.specs.Prelude.{◌≡◌, ℕ, ◌<◌, ◌≤◌, List, [], ◌++◌, length, Option, Some, IfSome, Err}
use Rattle.std.specs.List.{flat_map, AllByRecursion}
use Rattle.age_format.specs.Stanza.{Stanza, IsStanza, IsFront, spelling}
use Rattle.age_format.specs.Reading.{HasNoDone, IsDone, NoneDone, StandsBeforeDone}
use Rattle.kem_mail.specs.Mail.{Verdict}
use Rattle.kem_mail.specs.declared.error.MailError.TheVariants.{NoMemory, XofExhausted, ReadFault, InvalidData, UnexpectedEof, TooMuch}

-- where a source tells its bytes, it lost bytes of which this holds, from its front, and no others
abbrev pub Lost : Option (List ℕ) → Option (List ℕ) → (List ℕ → Type 0) → Type 0
Lost before now P = IfSome before (λ text. (bytes rest : List ℕ) × (text ≡ bytes ++ rest) × (now ≡ Some rest) × P bytes)

-- the bytes are stanzas without a `done`, and then a proper prefix of a stanza's spelling
abbrev pub BeginsList : List ℕ → Type 0
BeginsList bytes = (rest : List ℕ) × HasNoDone bytes rest × IsFront rest

-- the bytes are stanzas without a `done`, and then what begins no stanza
abbrev pub BeginsNoList : List ℕ → Type 0
BeginsNoList bytes = (rest : List ℕ) × HasNoDone bytes rest × (IsFront rest → ⊥)

-- the bytes hold a whole `done`
abbrev pub HoldsDone : List ℕ → Type 0
HoldsDone bytes = (stanzas : List Stanza) × StandsBeforeDone bytes stanzas

-- at most 4095 bytes stand behind the first `done`
abbrev pub IsShortBehindDone : List ℕ → Type 0
IsShortBehindDone bytes = (stanzas : List Stanza) (last : Stanza) (behind : List ℕ)
    → bytes ≡ flat_map spelling stanzas ++ (spelling last ++ behind) → AllByRecursion IsStanza stanzas → NoneDone stanzas
    → IsStanza last → IsDone last → length behind ≤ 4095

-- what an answer says of the bytes of a mail that were taken, within a budget: a whole `done`, where the
-- key or the reading don't come before it
abbrev pub StoppedBy : Verdict → ℕ → List ℕ → Type 0
StoppedBy (Err NoMemory) budget bytes = Unit {0}
StoppedBy (Err XofExhausted) budget bytes = bytes ≡ []
StoppedBy (Err ReadFault) budget bytes = BeginsList bytes × (length bytes < budget)
StoppedBy (Err InvalidData) budget bytes = BeginsNoList bytes
StoppedBy (Err UnexpectedEof) budget bytes = BeginsList bytes × (length bytes < budget)
StoppedBy (Err TooMuch) budget bytes = BeginsList bytes × (length bytes ≡ budget)
StoppedBy verdict budget bytes = HoldsDone bytes

-- the bytes of a mail that were taken for an answer
pub record IsTaken (budget : ℕ) (verdict : Verdict) (bytes : List ℕ) : Type 0 where
  pub within : length bytes ≤ budget
  pub behind : IsShortBehindDone bytes
  pub stopped : StoppedBy verdict budget bytes
