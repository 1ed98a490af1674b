-- Numbers packed into bytes, d bits each (FIPS 203, section 4.2.1).
use Rattle.std.specs.Prelude.{ℕ, zero, suc, ◌-◌, ◌*◌, ◌%◌, List, [], ◌∷◌, take, drop, map, nat_lt, ◌==◌, if◌then◌else◌, find, unwrap_or}
use Rattle.std.specs.List.{range_with_len}
use Rattle.module_lattice.specs.Bits.{bits_of_each, bits_to_bytes, bytes_to_bits, numbers_of}

-- ByteEncode (algorithm 5), for values that make whole bytes: bit d·i + j of the bytes is bit j of
-- values[i]
unfoldable pub groups : ℕ → List ℕ → List ℕ
groups d values = bits_to_bytes (bits_of_each d values)

-- the numbers of d bits each whose groups these bytes are: ByteDecode (algorithm 6) but at d = 12
unfoldable pub ungroup : ℕ → List ℕ → List ℕ
ungroup d bytes = numbers_of d (bytes_to_bits bytes)

-- x for an x below q, and x - q for others
abbrev pub reduced_once : ℕ → ℕ → ℕ
reduced_once q x = if nat_lt x q then x else x - q

-- ByteDecode (algorithm 6) at d = 12, where q is subtracted once from each number of q or more
unfoldable pub decode12 : ℕ → List ℕ → List ℕ
decode12 q bytes = map (reduced_once q) (ungroup 12 bytes)

-- ByteDecode (algorithm 6) for each d
abbrev pub decoded : ℕ → ℕ → List ℕ → List ℕ
decoded q d bytes = if d == 12 then decode12 q bytes else ungroup d bytes

-- the polynomials that so many times 32·d bytes decode to, one after another
abbrev pub decoded_each : ℕ → ℕ → ℕ → List ℕ → List (List ℕ)
decoded_each q d zero bytes = []
decoded_each q d (suc count) bytes = decoded q d (take (32 * d) bytes) ∷ decoded_each q d count (drop (32 * d) bytes)

-- the least common multiple of a and b, both at least 1: the first of a, 2·a, .. b·a that b divides
abbrev pub lcm : ℕ → ℕ → ℕ
lcm a b = unwrap_or (find (λ m. m % b == 0) (map (λ k. k * a) (range_with_len 1 b))) 0
