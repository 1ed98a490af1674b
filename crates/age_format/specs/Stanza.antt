-- A stanza of the age format and its one spelling, over base64 without padding (RFC 4648, sections 3.2 and 4).
use Rattle.std.specs.Prelude.{◌≡◌, ◌≢◌, ℕ, zero, suc, ◌/◌, ◌<◌, ◌≤◌, List, [], ◌∷◌, ◌++◌, length, take, drop, map, slice_index, codes}
use Rattle.std.specs.List.{flat_map, AllByRecursion}
use Rattle.std.specs.String.{string_bytes}
use Rattle.base64.specs.Rfc4648.{encode_symbols}
use Rattle.age_format.specs.declared.format.Stanza.{Stanza as Held}

-- a stanza without where it lies in memory
pub record Stanza : Type 0 where
  pub tag : List ℕ
  pub args : List (List ℕ)
  pub body : List ℕ

-- what a held stanza says
abbrev pub stanza_of : Held → Stanza
stanza_of held = record { tag = string_bytes held.tag; args = map string_bytes held.args.items; body = held.body.items }

-- each element is a byte
abbrev pub IsBytes : List ℕ → Type 0
IsBytes bytes = (i : ℕ) → slice_index bytes i < 256

-- a visible ASCII byte
abbrev pub IsVisible : ℕ → Type 0
IsVisible b = (33 ≤ b) × (b ≤ 126)

-- one or more visible ASCII bytes
abbrev pub IsArbitraryString : List ℕ → Type 0
IsArbitraryString text = (text ≢ []) × AllByRecursion IsVisible text

-- the characters for 0 to 63
abbrev pub alphabet : List ℕ
alphabet = codes "ABCDEFGHIJKLMNOPQRSTUVWXYZabcdefghijklmnopqrstuvwxyz0123456789+/"

-- six bits a character, the highest first, the last group filled with zeros, and no padding
abbrev pub base64 : List ℕ → List ℕ
base64 bytes = encode_symbols alphabet bytes

-- n lines of 64 characters, and the rest as the last line, each with its line feed
abbrev pub lines_of : ℕ → List ℕ → List ℕ
lines_of zero text = text ++ 10 ∷ []
lines_of (suc n) text = take 64 text ++ 10 ∷ lines_of n (drop 64 text)

-- the base64 of the body cut into lines; the last one has 0 to 63 characters
abbrev pub body_lines : List ℕ → List ℕ
body_lines body = lines_of (length (base64 body) / 64) (base64 body)

-- what has a spelling
pub record IsStanza (s : Stanza) : Type 0 where
  pub tag : IsArbitraryString s.tag
  pub args : AllByRecursion IsArbitraryString s.args
  pub body : IsBytes s.body

-- the one text of a stanza
abbrev pub spelling : Stanza → List ℕ
spelling s = codes "-> " ++ s.tag ++ flat_map (λ arg. 32 ∷ arg) s.args ++ 10 ∷ body_lines s.body

-- a proper prefix of a spelling, which may be empty
abbrev pub IsFront : List ℕ → Type 0
IsFront text = (s : Stanza) × (more : List ℕ) × IsStanza s × (more ≢ []) × (spelling s ≡ text ++ more)
