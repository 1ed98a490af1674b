-- Bytes, and numbers in bytes (RFC 9180, section 3).
use Rattle.std.specs.Prelude.{◌≡◌, ℕ, ◌<◌, List, [], ◌∷◌, length, slice_index, bit_xor}
use Rattle.std.specs.Int.{w16, to_be_bytes}

-- each element is a byte
abbrev pub IsBytes : List ℕ → Type 0
IsBytes bytes = (i : ℕ) → slice_index bytes i < 256

-- any bytes of the tag's length are a tag
abbrev pub IsTag : ℕ → List ℕ → Type 0
IsTag size bytes = (length bytes ≡ size) × IsBytes bytes

-- xor: place by place, as far as both go
abbrev pub xor_bytes : List ℕ → List ℕ → List ℕ
xor_bytes [] ys = []
xor_bytes (x ∷ xs) [] = []
xor_bytes (x ∷ xs) (y ∷ ys) = bit_xor x y ∷ xor_bytes xs ys

-- I2OSP(n, 2): the number in two bytes, the high one first
abbrev pub two_bytes : ℕ → List ℕ
two_bytes n = to_be_bytes w16 n
