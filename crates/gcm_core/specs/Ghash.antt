-- GHASH (SP 800-38D, section 6.4) as a function on lists of bytes. A block is 16 bytes.
use Rattle.std.specs.Prelude.{ℕ, zero, suc, ◌+◌, ◌/◌, List, [], ◌∷◌, length, take, drop, bit_xor}
use Rattle.std.specs.Int.{w128, from_be_bytes, to_be_bytes, reverse_bits}
use Rattle.gcm_core.specs.FieldMul.{product_of}

-- x^128 modulo x^128 + x^7 + x^2 + x + 1
abbrev pub reduction_block : ℕ
reduction_block = 0x87

-- a·b in GF(2^128) (6.3)
unfoldable pub block_product : ℕ → ℕ → ℕ
block_product a b = product_of 128 reduction_block 128 a b

-- h^n in GF(2^128)
unfoldable pub block_power : ℕ → ℕ → ℕ
block_power h zero = 1
block_power h (suc n) = block_product h (block_power h n)

-- the polynomial of a block: its bit i, counted from the highest bit of its first byte, is the
-- coefficient of x^i (6.3)
unfoldable pub polynomial_of : List ℕ → ℕ
polynomial_of block = reverse_bits w128 (from_be_bytes w128 block)

-- the block of a polynomial
unfoldable pub block_of : ℕ → List ℕ
block_of polynomial = to_be_bytes w128 (reverse_bits w128 polynomial)

-- the polynomials of the first m blocks of x
unfoldable pub polynomials : ℕ → List ℕ → List ℕ
polynomials zero x = []
polynomials (suc m) x = polynomial_of (take 16 x) ∷ polynomials m (drop 16 x)

-- X 1·H^m + X 2·H^(m - 1) + .. + X m·H (6.4)
unfoldable pub weighted_sum : ℕ → List ℕ → ℕ
weighted_sum h [] = 0
weighted_sum h (x ∷ xs) = bit_xor (block_product x (block_power h (length xs + 1))) (weighted_sum h xs)

-- GHASH of the whole blocks x under the hash subkey (6.4)
unfoldable pub ghash : List ℕ → List ℕ → List ℕ
ghash subkey x = block_of (weighted_sum (polynomial_of subkey) (polynomials (length x / 16) x))
