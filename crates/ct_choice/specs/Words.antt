-- Differences of words, by numbers that do not wrap.
use Rattle.std.specs.Prelude.{ℕ, ◌+◌, ◌-◌, ◌%◌, ◌^◌}

-- lhs - rhs - borrow modulo 2 ^ width, for words lhs and rhs and a borrow of 0 or 1
abbrev pub difference : ℕ → ℕ → ℕ → ℕ → ℕ
difference width lhs rhs borrow = (lhs + 2 ^ (width + 1) - (rhs + borrow)) % 2 ^ width

-- -n modulo 2 ^ width, for a word n
abbrev pub negation : ℕ → ℕ → ℕ
negation width n = (2 ^ width - n) % 2 ^ width
