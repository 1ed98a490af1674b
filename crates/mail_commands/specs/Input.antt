-- The inputs of the commands: lines of hexadecimal digits of either case.
use Rattle.std.specs.Prelude.{◌≡◌, ◌≢◌, ℕ, ◌+◌, ◌*◌, ◌<◌, ◌≤◌, List, [], ◌∷◌, ◌++◌, length, take, Ok}
use Rattle.hex.specs.Hex.{decode_of}

-- a line of digits that spells these bytes: from `least` to `most` digits, and a line feed
pub record IsLine (least most : ℕ) (text bytes : List ℕ) : Type 0 where
  pub digits : List ℕ
  pub whole : text ≡ digits ++ 10 ∷ []
  pub enough : least ≤ length digits
  pub short : length digits ≤ most
  pub decodes : decode_of digits ≡ Ok bytes

-- how many digits spell a seed, of 64 bytes
abbrev pub seed_digits : ℕ
seed_digits = 128

-- the most digits that spell an info
abbrev pub most_info_digits : ℕ
most_info_digits = 8192

-- how many digits spell the seed of a random source, of 32 bytes
abbrev pub source_digits : ℕ
source_digits = 64

-- the most digits that spell a message
abbrev pub most_message_digits : ℕ
most_message_digits = 65536

-- the most messages of an input
abbrev pub most_messages : ℕ
most_messages = 4096

-- the line of a seed
abbrev pub IsSeedLine : List ℕ → List ℕ → Type 0
IsSeedLine text seed = IsLine seed_digits seed_digits text seed

-- the line of an info: an even number of digits
abbrev pub IsInfoLine : List ℕ → List ℕ → Type 0
IsInfoLine text info = IsLine 0 most_info_digits text info

-- a line of digits, whatever it spells
abbrev pub IsLineText : ℕ → ℕ → List ℕ → Type 0
IsLineText least most text = (bytes : List ℕ) × IsLine least most text bytes

-- the head of a mail: the line of a seed, and the line of an info
pub record IsHead (text seed info : List ℕ) : Type 0 where
  pub first : List ℕ
  pub second : List ℕ
  pub whole : text ≡ first ++ second
  pub seed_line : IsSeedLine first seed
  pub info_line : IsInfoLine second info

-- a head, whatever it holds
abbrev pub IsHeadText : List ℕ → Type 0
IsHeadText text = (seed info : List ℕ) × IsHead text seed info

-- a line for each message, in order: an even number of digits
abbrev pub IsMessageLines : List ℕ → List (List ℕ) → Type 0
IsMessageLines text [] = text ≡ []
IsMessageLines text (message ∷ messages) = (line rest : List ℕ) × (text ≡ line ++ rest) × IsLine 0 most_message_digits line message × IsMessageLines rest messages

-- the lines of so many messages at most
abbrev pub IsMessages : ℕ → List ℕ → List (List ℕ) → Type 0
IsMessages most text messages = IsMessageLines text messages × (length messages ≤ most)

-- The input of `seal`: the line of an encapsulation key of this size, the line of an info, the line of the
-- seed of a random source, and the lines of the messages.
pub record IsSealInput (key_size : ℕ) (text key info source : List ℕ) (messages : List (List ℕ)) : Type 0 where
  pub first : List ℕ
  pub second : List ℕ
  pub third : List ℕ
  pub others : List ℕ
  pub whole : text ≡ first ++ (second ++ (third ++ others))
  pub key_line : IsLine (2 * key_size) (2 * key_size) first key
  pub info_line : IsInfoLine second info
  pub source_line : IsLine source_digits source_digits third source
  pub message_lines : IsMessages most_messages others messages

-- an input of `seal`, whatever it holds
abbrev pub IsSealText : ℕ → List ℕ → Type 0
IsSealText key_size text = (key info source : List ℕ) × (messages : List (List ℕ)) × IsSealInput key_size text key info source messages

-- inputs of a kind: `IsInput text` says that the text is a whole one
module _ (IsInput : List ℕ → Type 0) where
  -- the text is a proper prefix of an input
  abbrev pub IsPart : List ℕ → Type 0
  IsPart text = (more : List ℕ) × (more ≢ []) × IsInput (text ++ more)

  -- the text is a prefix of no input
  abbrev pub BeginsNone : List ℕ → Type 0
  BeginsNone text = (more : List ℕ) → IsInput (text ++ more) → ⊥

  -- What stands at this place, counted from 0, can't stand there: the bytes before it are a proper prefix
  -- of an input, and with it they are none.
  pub record FailsAt (text : List ℕ) (place : ℕ) : Type 0 where
    pub within : place < length text
    pub part : IsPart (take place text)
    pub fails : BeginsNone (take (place + 1) text)

  -- the text is a prefix of an input, which may be whole
  abbrev pub Begins : List ℕ → Type 0
  Begins text = (more : List ℕ) × IsInput (text ++ more)

  -- the text ends inside an input: it begins one, and is none
  abbrev pub EndsInside : List ℕ → Type 0
  EndsInside text = Begins text × (IsInput text → ⊥)

  -- The same of inputs of which one may begin another: the bytes before this place begin an input, and may be
  -- one, and with what stands there they begin none.
  pub record StopsAt (text : List ℕ) (place : ℕ) : Type 0 where
    pub within : place < length text
    pub begins : Begins (take place text)
    pub fails : BeginsNone (take (place + 1) text)
