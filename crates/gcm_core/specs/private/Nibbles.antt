-- SubBytes by look-ups of half bytes: a program on numbers that private functions compute. No public
-- clause cites it, and nothing in it has to be believed.
use Rattle.std.specs.Prelude.{◌≡◌, ℕ, ◌*◌, ◌/◌, ◌^◌, ◌<◌, List, Bool, ◌||◌, drop, map, take, slice_index, bit_and, bit_xor, nat_le, nat_lt, if◌then◌else◌}
use Rattle.std.specs.Simd.Lanes.{Each1}
use Rattle.gcm_core.specs.declared.nibbles.TheConstants.{TO_LOW, TO_HIGH, RECIPROCAL, SCALED, FIRST, SECOND, FIRST_CHANGED, SECOND_CHANGED, FIRST_TWICE, SECOND_TWICE, AFFINE}

-- a look-up of 16 entries has an answer for this place
abbrev pub is_place : ℕ → Bool
is_place place = nat_le 128 place || nat_lt place 16

-- the entry at a place, and 0 from 128 on
abbrev pub entry_of : List ℕ → ℕ → ℕ
entry_of table place = if nat_lt place 128 then slice_index table place else 0

-- a byte in the other basis
abbrev pub changed : ℕ → ℕ
changed x = bit_xor (entry_of TO_LOW (bit_and x 15)) (entry_of TO_HIGH (x / 2 ^ 4))

-- the two halves of the inverse, from those of a byte in the other basis
abbrev pub first_half : ℕ → ℕ
first_half t = bit_xor (entry_of RECIPROCAL (bit_xor (entry_of RECIPROCAL (t / 2 ^ 4)) (entry_of SCALED (bit_and t 15)))) (bit_xor (t / 2 ^ 4) (bit_and t 15))

abbrev pub second_half : ℕ → ℕ
second_half t = bit_xor (entry_of RECIPROCAL (bit_xor (entry_of RECIPROCAL (bit_xor (t / 2 ^ 4) (bit_and t 15))) (entry_of SCALED (bit_and t 15)))) (t / 2 ^ 4)

-- the S-box of a byte in the other basis
abbrev pub once : ℕ → ℕ
once t = bit_xor (bit_xor (entry_of FIRST (first_half t)) (entry_of SECOND (second_half t))) AFFINE

-- the same in the other basis, without what the affine map adds, and its double
abbrev pub once_changed : ℕ → ℕ
once_changed t = bit_xor (entry_of FIRST_CHANGED (first_half t)) (entry_of SECOND_CHANGED (second_half t))

abbrev pub twice_changed : ℕ → ℕ
twice_changed t = bit_xor (entry_of FIRST_TWICE (first_half t)) (entry_of SECOND_TWICE (second_half t))

-- t has the bytes s in the other basis
abbrev pub IsChanged : List ℕ → List ℕ → Type 0
IsChanged s t = (t ≡ map changed s) × Each1 (λ x. x < 256) s

-- t has round key number n of w in the other basis, with what the affine map adds
abbrev pub IsKey : List ℕ → ℕ → List ℕ → Type 0
IsKey w n t = (t ≡ map (λ x. changed (bit_xor x AFFINE)) (take 16 (drop (16 * n) w))) × Each1 (λ x. x < 256) (take 16 (drop (16 * n) w))
