-- A header line at the front of a text, and its strings, the longest runs of visible ASCII bytes.
use Rattle.std.specs.Prelude.{◌≡◌, ℕ, List, [], ◌∷◌, ◌++◌, codes}
use Rattle.std.specs.List.{flat_map}
use Rattle.age_format.specs.Stanza.{Stanza, IsStanza, IsVisible, IsArbitraryString}

-- the first byte is none of a string
abbrev pub BeginsHidden : List ℕ → Type 0
BeginsHidden [] = ⊥
BeginsHidden (b ∷ bs) = IsVisible b → ⊥

-- the string is the longest run of visible bytes at the front of a text that goes on behind it
pub record BeginsWithString (text string rest : List ℕ) : Type 0 where
  pub whole : text ≡ string ++ rest
  pub is_string : IsArbitraryString string
  pub longest : BeginsHidden rest

-- the header line of a stanza without a body, and what follows it
pub record BeginsWithHeader (text : List ℕ) (header : Stanza) (behind : List ℕ) : Type 0 where
  pub whole : text ≡ codes "-> " ++ header.tag ++ flat_map (λ arg. 32 ∷ arg) header.args ++ 10 ∷ behind
  pub is_stanza : IsStanza header
  pub no_body : header.body ≡ []
