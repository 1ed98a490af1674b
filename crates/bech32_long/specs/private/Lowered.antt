-- How a human-readable part is stored, and lists that are changed place by place.
use Rattle.std.specs.Prelude.{◌≡◌, ℕ, ◌-◌, ◌≤◌, List, length, take, drop, map, replicate}
use Rattle.std.specs.Char.{to_ascii_lowercase}
use Rattle.bech32_long.specs.Part.{IsLowered}

-- the part is the first len of the bytes
pub record IsStored (bytes : List ℕ) (len : ℕ) : Type 0 where
  pub within : len ≤ 83
  pub lowered : IsLowered (take len bytes)

-- the first i elements are those that f makes, and the others stay
pub record IsMapped (f : ℕ → ℕ) (before now : List ℕ) (i : ℕ) : Type 0 where
  pub front : take i now ≡ map f (take i before)
  pub rest : drop i now ≡ drop i before

-- the first i bytes of the text stand in lower case in the bytes, and zeros behind them
pub record IsLoweredUpTo (text bytes : List ℕ) (i : ℕ) : Type 0 where
  pub front : take i bytes ≡ map to_ascii_lowercase (take i text)
  pub rest : drop i bytes ≡ replicate (83 - i) 0
  pub len : length bytes ≡ 83
