-- The legacy reading of a stanza. Older writers left out the empty line that ends a body of full lines, and what
-- follows a header line may be no body at all.
use Rattle.std.specs.Prelude.{◌≡◌, ◌≢◌, ℕ, ◌==◌, ◌&&◌, ◌||◌, Bool, false, if◌then◌else◌, List, [], ◌∷◌, ◌++◌, length, drop, position, is_some, ◌⊎◌}
use Rattle.age_format.specs.Stanza.{Stanza, IsStanza, IsBytes, IsFront, alphabet, body_lines, spelling}
use Rattle.age_format.specs.Front.{IsMalformed}
use Rattle.age_format.specs.Strings.{BeginsWithHeader}

-- one of the 64 characters of base64 (RFC 4648, section 4)
unfoldable pub is_character : ℕ → Bool
is_character b = is_some (position (λ c. c == b) alphabet)

abbrev pub begins_character : List ℕ → Bool
begins_character [] = false
begins_character (b ∷ bs) = is_character b

-- characters, and each line feed that stands before a character, up to any other byte
unfoldable pub run_of : List ℕ → List ℕ
run_of [] = []
run_of (b ∷ bs) = if is_character b || (b == 10 && begins_character bs) then b ∷ run_of bs else []

-- the chunks at the front of a text, each the longest run of characters, with a line feed between two of them
abbrev pub chunks_of : List ℕ → List ℕ
chunks_of text = if begins_character text then run_of text else []

-- what follows the chunks
abbrev pub behind_chunks : List ℕ → List ℕ
behind_chunks text = drop (length (chunks_of text)) text

-- The chunks are the lines of this body: all but the last have 64 characters, and the last one at most 64.
-- A body's lines end with one of fewer than 64; where that one is empty, the chunks are without it.
pub record AreLines (chunks body : List ℕ) : Type 0 where
  pub some : chunks ≢ []
  pub is_bytes : IsBytes body
  pub lines : (body_lines body ≡ chunks ++ 10 ∷ []) ⊎ (body_lines body ≡ chunks ++ 10 ∷ 10 ∷ [])

-- what a text comes to: a stanza and the rest, the part of one, or neither
pub data Reading : Type 0 where
  Stands : (stanza : Stanza) (rest : List ℕ) → Reading
  Cut : Reading
  Malformed : Reading

-- the text ends behind its chunks, or behind a line feed that follows them
abbrev pub Ends : List ℕ → Type 0
Ends text = (behind_chunks text ≡ []) ⊎ (behind_chunks text ≡ 10 ∷ [])

-- the chunks are a body, and a line feed follows
pub record HasBody (header : Stanza) (text : List ℕ) (stanza : Stanza) (rest : List ℕ) : Type 0 where
  pub goes_on : Ends text → ⊥
  pub lines : AreLines (chunks_of text) stanza.body
  pub fed : behind_chunks text ≡ 10 ∷ rest
  pub tag : stanza.tag ≡ header.tag
  pub args : stanza.args ≡ header.args

-- the chunks are none, and so belong to the rest
pub record HasNoBody (header : Stanza) (text : List ℕ) (stanza : Stanza) (rest : List ℕ) : Type 0 where
  pub goes_on : Ends text → ⊥
  pub no_lines : (body : List ℕ) → AreLines (chunks_of text) body → ⊥
  pub stanza_is : stanza ≡ header
  pub rest_is : rest ≡ text

-- the chunks are a body, and another byte follows
pub record Overruns (text : List ℕ) : Type 0 where
  pub goes_on : Ends text → ⊥
  pub body : List ℕ
  pub lines : AreLines (chunks_of text) body
  pub unfed : (rest : List ℕ) → behind_chunks text ≢ 10 ∷ rest

-- what the text behind a header line comes to
abbrev pub ReadsBehind : Stanza → List ℕ → Reading → Type 0
ReadsBehind header text (Stands stanza rest) = HasBody header text stanza rest ⊎ HasNoBody header text stanza rest
ReadsBehind header text Cut = Ends text
ReadsBehind header text Malformed = Overruns text

-- a text that begins with a header line comes to this
pub record ReadsHeader (text : List ℕ) (reading : Reading) : Type 0 where
  pub header : Stanza
  pub behind : List ℕ
  pub begins : BeginsWithHeader text header behind
  pub reads : ReadsBehind header behind reading

-- no header line begins the text
abbrev pub HasNoHeader : List ℕ → Type 0
HasNoHeader text = (header : Stanza) (behind : List ℕ) → BeginsWithHeader text header behind → ⊥

-- the strict reading, and where that is neither a stanza nor a front, the one of older writers
abbrev pub ReadsLegacy : List ℕ → Reading → Type 0
ReadsLegacy text (Stands stanza rest) = (IsStanza stanza × (text ≡ spelling stanza ++ rest)) ⊎ (IsMalformed text × ReadsHeader text (Stands stanza rest))
ReadsLegacy text Cut = IsFront text ⊎ (IsMalformed text × ReadsHeader text Cut)
ReadsLegacy text Malformed = IsMalformed text × (HasNoHeader text ⊎ ReadsHeader text Malformed)
