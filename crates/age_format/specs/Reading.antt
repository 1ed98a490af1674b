-- The stanzas of a text, and those before the first `done` within a budget.
use Rattle.std.specs.Prelude.{◌≡◌, ◌≢◌, ℕ, ◌<◌, ◌≤◌, List, ◌++◌, length, take, codes}
use Rattle.std.specs.List.{flat_map, AllByRecursion}
use Rattle.age_format.specs.Stanza.{Stanza, IsStanza, IsFront, spelling}

-- The text is the spellings of these stanzas, and then a rest that no spelling begins:
-- so the list is the longest whose spellings begin the text.
pub record Splits (text : List ℕ) (stanzas : List Stanza) (rest : List ℕ) : Type 0 where
  pub whole : text ≡ flat_map spelling stanzas ++ rest
  pub each : AllByRecursion IsStanza stanzas
  pub longest : (s : Stanza) (more : List ℕ) → IsStanza s → rest ≢ spelling s ++ more

-- a stanza that ends a list
abbrev pub IsDone : Stanza → Type 0
IsDone s = s.tag ≡ codes "done"

-- no stanza of the list is tagged `done`
abbrev pub NoneDone : List Stanza → Type 0
NoneDone stanzas = AllByRecursion (λ s. s.tag ≢ codes "done") stanzas

-- what reading a text comes to: the stanzas before the first `done`, or why there is none
pub data Reading : Type 0 where
  Before_done : (stanzas : List Stanza) → Reading
  Invalid_data : Reading
  Unexpected_eof : Reading
  Too_much : Reading

-- these stanzas stand in the text before a first `done`
pub record StandsBeforeDone (text : List ℕ) (stanzas : List Stanza) : Type 0 where
  pub last : Stanza
  pub rest : List ℕ
  pub whole : text ≡ flat_map spelling stanzas ++ (spelling last ++ rest)
  pub each : AllByRecursion IsStanza stanzas
  pub none_done : NoneDone stanzas
  pub last_is_stanza : IsStanza last
  pub last_is_done : IsDone last

-- the text is stanzas without a `done`, and then this rest
pub record HasNoDone (text rest : List ℕ) : Type 0 where
  pub stanzas : List Stanza
  pub splits : Splits text stanzas rest
  pub none_done : NoneDone stanzas

-- the reading of the first `budget` bytes of a text
abbrev pub Reads : List ℕ → ℕ → Reading → Type 0
Reads text budget (Before_done stanzas) = StandsBeforeDone (take budget text) stanzas
-- what stands there is no front of a spelling
Reads text budget Invalid_data = (rest : List ℕ) × HasNoDone (take budget text) rest × (IsFront rest → ⊥)
-- the text ended within the budget, inside a stanza or between two
Reads text budget Unexpected_eof = (rest : List ℕ) × HasNoDone (take budget text) rest × IsFront rest × (length text < budget)
-- the budget ended, inside a stanza or between two
Reads text budget Too_much = (rest : List ℕ) × HasNoDone (take budget text) rest × IsFront rest × (budget ≤ length text)
