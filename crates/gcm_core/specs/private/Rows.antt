-- Products of GF(2^128) by rows of 16 entries: a program on numbers that private functions compute. No
-- public clause cites it, and nothing in it has to be believed.
use Rattle.std.specs.Prelude.{◌≡◌, ℕ, ◌+◌, ◌-◌, ◌*◌, ◌/◌, ◌%◌, ◌^◌, ◌<◌, List, drop, take, slice_index, bit_and, bit_xor, nat_lt, if◌then◌else◌}
use Rattle.gcm_core.specs.Ghash.{block_product}
use Rattle.gcm_core.specs.private.Nibbles.{entry_of}

-- byte b of an element, whose lowest coefficients are byte 0
abbrev pub byte_of : ℕ → ℕ → ℕ
byte_of b e = e / 2 ^ (8 * b) % 256

-- the factor of a place: a low half byte, and then a high one
abbrev pub factor_of : ℕ → ℕ
factor_of place = if nat_lt place 16 then place else 16 * (place - 16)

-- row b of 32 entries has byte b of each factor's product
abbrev pub IsRows : ℕ → List ℕ → Type 0
IsRows h rows = (b place : ℕ) → b < 16 → place < 32 → slice_index rows (32 * b + place) ≡ byte_of b (block_product (factor_of place) h)

-- what row b gives of a byte
abbrev pub row_at : List ℕ → ℕ → ℕ → ℕ
row_at rows b c = bit_xor (entry_of (take 16 (drop (32 * b) rows)) (bit_and c 15)) (entry_of (take 16 (drop (32 * b + 16) rows)) (c / 2 ^ 4))

-- byte b of the product of a byte
abbrev pub product_byte : ℕ → ℕ → ℕ → ℕ
product_byte h b c = byte_of b (block_product c h)
