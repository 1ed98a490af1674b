-- Numbers as lists of bits (FIPS 203, section 4.2.1). Everywhere a number's least bit comes first.
use Rattle.std.specs.Prelude.{ℕ, zero, suc, ◌+◌, ◌*◌, ◌/◌, ◌%◌, List, [], ◌∷◌, length, take, drop, slice_index}
use Rattle.std.specs.Int.{bit_at}
use Rattle.std.specs.List.{flat_map}

-- bit k of a list of bytes: bit k mod 8 of byte k / 8, rounded down
abbrev pub byte_bit : List ℕ → ℕ → ℕ
byte_bit bytes k = bit_at (slice_index bytes (k / 8)) (k % 8)

-- the lowest d bits of x
unfoldable pub bits_of : ℕ → ℕ → List ℕ
bits_of zero x = []
bits_of (suc d) x = x % 2 ∷ bits_of d (x / 2)

-- the number that has these bits
unfoldable pub number_of : List ℕ → ℕ
number_of [] = 0
number_of (b ∷ bits) = b + 2 * number_of bits

-- the bits of numbers of d bits each, in a row: bit d·i + j is bit j of number i
unfoldable pub bits_of_each : ℕ → List ℕ → List ℕ
bits_of_each d numbers = flat_map (bits_of d) numbers

-- the first n numbers of d bits each
unfoldable pub numbers_in : ℕ → ℕ → List ℕ → List ℕ
numbers_in d zero bits = []
numbers_in d (suc n) bits = number_of (take d bits) ∷ numbers_in d n (drop d bits)

-- all numbers of d bits each, for a d of at least 1: bit j of number i is bit d·i + j
unfoldable pub numbers_of : ℕ → List ℕ → List ℕ
numbers_of d bits = numbers_in d (length bits / d) bits

-- BytesToBits (algorithm 4)
abbrev pub bytes_to_bits : List ℕ → List ℕ
bytes_to_bits bytes = bits_of_each 8 bytes

-- BitsToBytes (algorithm 3), for bits that make whole bytes
abbrev pub bits_to_bytes : List ℕ → List ℕ
bits_to_bytes bits = numbers_of 8 bits
