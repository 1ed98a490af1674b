-- Human-readable parts (BIP 173, section "Bech32").
use Rattle.std.specs.Prelude.{◌≡◌, ℕ, List, length, Bool, true, false, not, nat_le, ◌&&◌}
use Rattle.std.specs.List.{list_any, list_all}
use Rattle.std.specs.Char.{is_ascii_uppercase, is_ascii_lowercase, is_ascii_graphic}

-- ASCII letters of both cases occur
abbrev pub is_mixed : List ℕ → Bool
is_mixed text = list_any is_ascii_uppercase text && list_any is_ascii_lowercase text

-- 1 to 83 bytes from 33 to 126, with letters of one case alone
abbrev pub is_part : List ℕ → Bool
is_part text = nat_le 1 (length text) && nat_le (length text) 83 && list_all is_ascii_graphic text && not (is_mixed text)

-- a human-readable part without capital letters
pub record IsLowered (part : List ℕ) : Type 0 where
  pub visible : is_part part ≡ true
  pub low : list_any is_ascii_uppercase part ≡ false
