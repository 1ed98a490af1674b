-- The lines of items, and of a fault.
use Rattle.std.specs.Prelude.{ℕ, List, [], ◌∷◌, ◌++◌, codes, decimal}
use Rattle.std.specs.List.{flat_map}
use Rattle.hex.specs.Hex.{encode_lower}

-- each item in lower-case hexadecimal digits, with a line feed
abbrev pub lines : List (List ℕ) → List ℕ
lines items = flat_map (λ item. encode_lower item ++ 10 ∷ []) items

-- the numbers of a fault in decimal, each behind a space
abbrev pub spaced : List ℕ → List ℕ
spaced numbers = flat_map (λ n. 32 ∷ decimal n) numbers

-- the line of a fault: `! `, its name, its numbers, and a line feed
abbrev pub fault_line : List ℕ → List ℕ → List ℕ
fault_line name numbers = codes "! " ++ (name ++ (spaced numbers ++ 10 ∷ []))
