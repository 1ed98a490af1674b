-- What is a proper prefix of a spelling, by the three cases of the format, and what begins none.
use Rattle.std.specs.Prelude.{◌≡◌, ◌≢◌, ℕ, ◌<◌, ◌≤◌, List, [], ◌∷◌, ◌++◌, length, slice_index, codes, ◌⊎◌}
use Rattle.std.specs.List.{flat_map, AllByRecursion}
use Rattle.age_format.specs.Stanza.{Stanza, IsStanza, IsFront, IsArbitraryString, IsVisible, alphabet, spelling}

-- one of the 64 characters
abbrev pub IsCharacter : ℕ → Type 0
IsCharacter c = (k : ℕ) × (k < 64) × (slice_index alphabet k ≡ c)

-- a part of `-> `, which may be empty or all of it
abbrev pub IsPrefixPart : List ℕ → Type 0
IsPrefixPart text = (rest : List ℕ) × (text ++ rest ≡ codes "-> ")

-- `-> ` and a header line that hasn't ended: words with a single space behind each, and the
-- bytes of a last word, which may be none
pub record IsHeaderPart (text : List ℕ) : Type 0 where
  pub words : List (List ℕ)
  pub last : List ℕ
  pub text_is : text ≡ codes "-> " ++ flat_map (λ word. word ++ 32 ∷ []) words ++ last
  pub words_are : AllByRecursion IsArbitraryString words
  pub last_is : AllByRecursion IsVisible last

-- a whole header line, full lines of 64 characters, and 0 to 64 characters without a line feed
pub record IsBodyPart (text : List ℕ) : Type 0 where
  pub tag : List ℕ
  pub args : List (List ℕ)
  pub lines : List (List ℕ)
  pub last : List ℕ
  pub text_is : text ≡ codes "-> " ++ tag ++ flat_map (λ arg. 32 ∷ arg) args ++ 10 ∷ flat_map (λ line. line ++ 10 ∷ []) lines ++ last
  pub tag_is : IsArbitraryString tag
  pub args_are : AllByRecursion IsArbitraryString args
  pub lines_are : AllByRecursion (λ line. (length line ≡ 64) × AllByRecursion IsCharacter line) lines
  pub last_is : (length last ≤ 64) × AllByRecursion IsCharacter last

-- the three cases
abbrev pub IsFrontByCases : List ℕ → Type 0
IsFrontByCases text = IsPrefixPart text ⊎ (IsHeaderPart text ⊎ IsBodyPart text)

-- no spelling begins the text
abbrev pub BeginsNone : List ℕ → Type 0
BeginsNone text = (s : Stanza) (more : List ℕ) → IsStanza s → text ≢ spelling s ++ more

-- the text is no proper prefix of a spelling, and no spelling begins it
pub record IsMalformed (text : List ℕ) : Type 0 where
  pub no_front : IsFront text → ⊥
  pub begins_none : BeginsNone text
