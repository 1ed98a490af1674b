-- What a reader of stanzas holds, and what receiving takes and gives.
use Rattle.std.specs.Prelude.{◌≡◌, ℕ, ◌+◌, List, [], ◌++◌, length, Option, Some, IfSome}
use Rattle.std.specs.List.{flat_map, AllByRecursion}
use Rattle.age_format.specs.Stanza.{Stanza, IsStanza, spelling}

-- a reader: the bytes that it holds, and the budget that is left
pub record Held : Type 0 where
  pub bytes : List ℕ
  pub budget : ℕ

-- a reader that has read nothing
abbrev pub fresh : ℕ → Held
fresh budget = record { bytes = []; budget = budget }

-- where a source tells its bytes, these were at their front, and it lost them
abbrev pub Took : Option (List ℕ) → Option (List ℕ) → List ℕ → Type 0
Took before now bytes = IfSome before (λ text. (rest : List ℕ) × (text ≡ bytes ++ rest) × (now ≡ Some rest))

-- From one state of a reader and its source to another, these stanzas were given, in order: their
-- spellings begin what was held and the bytes that were taken, and exactly the rest is held. The
-- budget paid for the bytes that were taken.
pub record Receives (before now : Held) (left_before left_now : Option (List ℕ)) (stanzas : List Stanza) : Type 0 where
  pub taken : List ℕ
  pub whole : before.bytes ++ taken ≡ flat_map spelling stanzas ++ now.bytes
  pub each : AllByRecursion IsStanza stanzas
  pub paid : before.budget ≡ now.budget + length taken
  pub told : Took left_before left_now taken
