-- The plain program that reads one stanza from the front of a text, on lists.
-- The private functions compute it; no public clause cites it, and nothing here has to be believed.
use Rattle.std.specs.Prelude.{◌≡◌, ℕ, ◌==◌, ◌&&◌, nat_le, Bool, false, if◌then◌else◌, List, [], ◌∷◌, ◌++◌, length, take, drop, codes, Option, Some, None, option_and_then}
use Rattle.std.specs.Str.{bytes_eq}
use Rattle.base64.specs.declared.engine.general_purpose.GeneralPurpose.{GeneralPurpose}
use Rattle.base64.specs.declared.engine.DecodePaddingMode.TheVariants.{RequireNone}
use Rattle.base64.specs.GeneralPurpose.{IsConfig, decoded_of, engine_config, engine_symbols}
use Rattle.age_format.specs.Stanza.{Stanza, alphabet}

-- an engine of the alphabet, without padding, that takes no unused bit that is set
abbrev pub IsLineEngine : GeneralPurpose → Type 0
IsLineEngine engine = (engine_symbols engine ≡ alphabet) × IsConfig (engine_config engine) false false RequireNone

-- visible ASCII
abbrev pub is_visible : ℕ → Bool
is_visible b = nat_le 33 b && nat_le b 126

-- the words up to a line feed, and what follows it, with the bytes of the word so far and the words before it
unfoldable pub words_from : List ℕ → List (List ℕ) → List ℕ → Option (List (List ℕ) × List ℕ)
words_from word words [] = None
words_from word words (b ∷ bs) =
    if is_visible b then words_from (word ++ b ∷ []) words bs
    else if length word == 0 then None
    else if b == 32 then words_from [] (words ++ word ∷ []) bs
    else if b == 10 then Some (words ++ word ∷ [], bs)
    else None

-- the body up to the end of its last line, and what follows it, with the bytes so far and the line so far
unfoldable pub lines_from : GeneralPurpose → List ℕ → List ℕ → List ℕ → Option (List ℕ × List ℕ)
lines_from engine body line [] = None
lines_from engine body line (b ∷ bs) =
    if b == 10 then option_and_then (λ bytes.
    if length line == 64 then lines_from engine (body ++ bytes) [] bs else Some (body ++ bytes, bs)) (decoded_of engine line)
    else if length line == 64 then None
    else lines_from engine body (line ++ b ∷ []) bs

-- the header of these words: a stanza without a body
abbrev pub header_from : List (List ℕ) → List ℕ → Option (Stanza × List ℕ)
header_from [] rest = None
header_from (tag ∷ args) rest = Some (record { tag = tag; args = args; body = [] }, rest)

abbrev pub header_behind : Option (List (List ℕ) × List ℕ) → Option (Stanza × List ℕ)
header_behind None = None
header_behind (Some words) = header_from words.0 words.1

-- the header line that begins the text, and what follows it
unfoldable pub header_read : List ℕ → Option (Stanza × List ℕ)
header_read text =
    if bytes_eq (take 3 text) (codes "-> ") then header_behind (words_from [] [] (drop 3 text)) else None

-- a header with the body that follows it
abbrev pub with_lines : Stanza → Option (List ℕ × List ℕ) → Option (Stanza × List ℕ)
with_lines header None = None
with_lines header (Some read) = Some (record header { body = read.0 }, read.1)

abbrev pub with_body : GeneralPurpose → Option (Stanza × List ℕ) → Option (Stanza × List ℕ)
with_body engine None = None
with_body engine (Some read) = with_lines read.0 (lines_from engine [] [] read.1)

-- the stanza of these words and of the body that follows
abbrev pub stanza_from : List (List ℕ) → Option (List ℕ × List ℕ) → Option (Stanza × List ℕ)
stanza_from [] read = None
stanza_from (tag ∷ args) None = None
stanza_from (tag ∷ args) (Some read) = Some (record { tag = tag; args = args; body = read.0 }, read.1)

-- the stanza behind `-> `
unfoldable pub stanza_behind : GeneralPurpose → Option (List (List ℕ) × List ℕ) → Option (Stanza × List ℕ)
stanza_behind engine None = None
stanza_behind engine (Some words) = stanza_from words.0 (lines_from engine [] [] words.1)

-- the stanza whose spelling begins the text, and what follows it
unfoldable pub stanza_read : GeneralPurpose → List ℕ → Option (Stanza × List ℕ)
stanza_read engine text =
    if bytes_eq (take 3 text) (codes "-> ") then stanza_behind engine (words_from [] [] (drop 3 text)) else None
