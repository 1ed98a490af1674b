-- Words in order, and zeros behind the last.
use Rattle.std.specs.Prelude.{ℕ, List, [], ◌∷◌}

abbrev pub next_of : List ℕ → ℕ × List ℕ
next_of [] = (0, [])
next_of (word ∷ rest) = (word, rest)
