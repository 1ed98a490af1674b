-- Truth values: a table that the Prelude lacks, and truth values as numbers.
use Rattle.std.specs.Prelude.{ℕ, ◌-◌, ◌^◌, Bool, true, false, not}

-- true where just one of the two is true
abbrev pub xor : Bool → Bool → Bool
xor true b = not b
xor false b = b

-- 1 for true and 0 for false
abbrev pub bit_of : Bool → ℕ
bit_of true = 1
bit_of false = 0

-- all ones for true and 0 for false
abbrev pub mask_of : ℕ → Bool → ℕ
mask_of width true = 2 ^ width - 1
mask_of width false = 0
