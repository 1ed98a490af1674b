-- Sampling (FIPS 203, section 4.2.2).
use Rattle.std.specs.Prelude.{ℕ, ◌+◌, ◌*◌, ◌/◌, ◌%◌, List, [], ◌∷◌, Option, Some, None, length, take, map, filter, sum_by, nat_lt, if◌then◌else◌}
use Rattle.std.specs.List.{range_with_len}
use Rattle.module_lattice.specs.Bits.{byte_bit}
use Rattle.module_lattice.specs.Ring.{minus}
use Rattle.ml_kem.specs.Parameters.{q}

-- the two numbers of 12 bits that each three bytes hold, d1 before d2 (algorithm 7, lines 5 and 6)
abbrev pub candidates : List ℕ → List ℕ
candidates [] = []
candidates (b0 ∷ []) = []
candidates (b0 ∷ b1 ∷ []) = []
candidates (b0 ∷ b1 ∷ b2 ∷ bytes) = (b0 + 256 * (b1 % 16)) ∷ (b1 / 16 + 16 * b2) ∷ candidates bytes

-- the candidates below q
abbrev pub accepted : List ℕ → List ℕ
accepted bytes = filter (λ d. nat_lt d q) (candidates bytes)

-- SampleNTT (algorithm 7): the first 256 of them, or none where there are fewer. It is a polynomial in
-- the transform domain.
unfoldable pub sample : List ℕ → Option (List ℕ)
sample bytes = if nat_lt (length (accepted bytes)) 256 then None else Some (take 256 (accepted bytes))

-- the sum of so many bits of the bytes, from bit `first` on
abbrev pub bit_sum : List ℕ → ℕ → ℕ → ℕ
bit_sum bytes first count = sum_by (byte_bit bytes) (range_with_len first count)

-- coefficient i of SamplePolyCBD: the sum of eta bits minus the sum of the next eta bits (algorithm 8,
-- lines 3 to 5)
abbrev pub cbd_coefficient : ℕ → List ℕ → ℕ → ℕ
cbd_coefficient eta bytes i = minus q (bit_sum bytes (2 * eta * i) eta) (bit_sum bytes (2 * eta * i + eta) eta)

-- SamplePolyCBD (algorithm 8), of 64·eta bytes
unfoldable pub cbd : ℕ → List ℕ → List ℕ
cbd eta bytes = map (cbd_coefficient eta bytes) (range_with_len 0 256)
