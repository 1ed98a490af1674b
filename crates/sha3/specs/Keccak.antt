-- Keccak-f[1600] (FIPS 202, section 3) on a state of 25 lanes of 64 bits, each a number below 2^64.
-- Lane(x, y) is at place x + 5·y, and its bit z is A[x, y, z] (3.1.2 and 3.1.3). Section numbers are the
-- standard's.
use Rattle.std.specs.Prelude.{ℕ, zero, suc, ◌+◌, ◌-◌, ◌*◌, ◌/◌, ◌%◌, ◌^◌, ◌==◌, List, [], ◌∷◌, map, find, sum_by, bit_and, bit_xor, slice_index}
use Rattle.std.specs.List.{range_with_len}
use Rattle.std.specs.Option.{option_map_or}
use Rattle.std.specs.Int.{w64, bit_not, rotate_left}

-- Lane(x, y), with both taken modulo 5
abbrev pub lane : List ℕ → ℕ → ℕ → ℕ
lane a x y = slice_index a (x % 5 + 5 * (y % 5))

-- the state whose lane (x, y) is f x y
abbrev pub state_of : (ℕ → ℕ → ℕ) → List ℕ
state_of f = map (λ k. f (k % 5) (k / 5)) (range_with_len 0 25)

-- C[x]: the sum of a column (3.2.1, step 1)
abbrev pub column_sum : List ℕ → ℕ → ℕ
column_sum a x = bit_xor (bit_xor (bit_xor (bit_xor (lane a x 0) (lane a x 1)) (lane a x 2)) (lane a x 3)) (lane a x 4)

-- D[x]: of the columns at x - 1 and, one bit lower, at x + 1 (3.2.1, step 2)
abbrev pub neighbours : List ℕ → ℕ → ℕ
neighbours a x = bit_xor (column_sum a (x + 4)) (rotate_left w64 (column_sum a (x + 1)) 1)

-- theta (3.2.1)
unfoldable pub theta : List ℕ → List ℕ
theta a = state_of (λ x y. bit_xor (lane a x y) (neighbours a x))

-- the offset of each lane, modulo 64 (3.2.2, table 2)
abbrev pub offsets : List ℕ
offsets =
    0 ∷ 1 ∷ 62 ∷ 28 ∷ 27 ∷
    36 ∷ 44 ∷ 6 ∷ 55 ∷ 20 ∷
    3 ∷ 10 ∷ 43 ∷ 25 ∷ 39 ∷
    41 ∷ 45 ∷ 15 ∷ 21 ∷ 8 ∷
    18 ∷ 2 ∷ 61 ∷ 56 ∷ 14 ∷ []

-- rho: each lane turned by its offset, so that bit z comes from bit z minus the offset (3.2.2)
unfoldable pub rho : List ℕ → List ℕ
rho a = state_of (λ x y. rotate_left w64 (lane a x y) (lane offsets x y))

-- pi (3.2.3)
unfoldable pub pi : List ℕ → List ℕ
pi a = state_of (λ x y. lane a (x + 3 * y) x)

-- chi (3.2.4)
unfoldable pub chi : List ℕ → List ℕ
chi a = state_of (λ x y. bit_xor (lane a x y) (bit_and (bit_not w64 (lane a (x + 1) y)) (lane a (x + 2) y)))

-- RC of each round (3.2.5, step 3)
abbrev pub round_constants : List ℕ
round_constants =
    0x0000000000000001 ∷ 0x0000000000008082 ∷ 0x800000000000808A ∷ 0x8000000080008000 ∷
    0x000000000000808B ∷ 0x0000000080000001 ∷ 0x8000000080008081 ∷ 0x8000000000008009 ∷
    0x000000000000008A ∷ 0x0000000000000088 ∷ 0x0000000080008009 ∷ 0x000000008000000A ∷
    0x000000008000808B ∷ 0x800000000000008B ∷ 0x8000000000008089 ∷ 0x8000000000008003 ∷
    0x8000000000008002 ∷ 0x8000000000000080 ∷ 0x000000000000800A ∷ 0x800000008000000A ∷
    0x8000000080008081 ∷ 0x8000000000008080 ∷ 0x0000000080000001 ∷ 0x8000000080008008 ∷ []

-- iota of round ir (3.2.5, step 4)
abbrev pub iota : List ℕ → ℕ → List ℕ
iota [] ir = []
iota (first ∷ rest) ir = bit_xor first (slice_index round_constants ir) ∷ rest

-- Rnd(A, ir) (3.3)
abbrev pub round : List ℕ → ℕ → List ℕ
round a ir = iota (chi (pi (rho (theta a)))) ir

-- the state after the first n rounds
unfoldable pub rounds : List ℕ → ℕ → List ℕ
rounds a zero = a
rounds a (suc n) = round (rounds a n) n

-- Keccak-f[1600], which has 24 rounds (3.3 and 3.4)
unfoldable pub keccak_f : List ℕ → List ℕ
keccak_f a = rounds a 24

-- ---- where the literals come from

-- the lane that rho turns in step t: (1, 0) at first, and then (y, 2x + 3y) after (x, y) (3.2.2)
abbrev pub visited : ℕ → ℕ × ℕ
visited zero = (1, 0)
visited (suc t) = let at = visited t in (at.1, (2 * at.0 + 3 * at.1) % 5)

-- the offset of the lane at a place: (t + 1)(t + 2)/2 where step t visits it, and 0 where none does (3.2.2)
abbrev pub offset_at : ℕ → ℕ
offset_at place =
    option_map_or (λ t. (t + 1) * (t + 2) / 2 % 64) (find (λ t. (visited t).0 + 5 * (visited t).1 == place) (range_with_len 0 24)) 0

-- the register R after one turn of step 3 (3.2.5, algorithm 5)
abbrev pub turned : List ℕ → List ℕ
turned r = slice_index r 7 ∷ slice_index r 0 ∷ slice_index r 1 ∷ slice_index r 2 ∷ bit_xor (slice_index r 3) (slice_index r 7)
    ∷ bit_xor (slice_index r 4) (slice_index r 7) ∷ bit_xor (slice_index r 5) (slice_index r 7) ∷ slice_index r 6 ∷ []

-- R after t turns of 10000000
abbrev pub register : ℕ → List ℕ
register zero = 1 ∷ 0 ∷ 0 ∷ 0 ∷ 0 ∷ 0 ∷ 0 ∷ 0 ∷ []
register (suc t) = turned (register t)

-- rc(t) (3.2.5, algorithm 5)
abbrev pub rc : ℕ → ℕ
rc t = slice_index (register (t % 255)) 0

-- RC of round ir: bit 2^j - 1 is rc(j + 7·ir), for j from 0 to 6 (3.2.5, steps 2 and 3)
abbrev pub round_constant : ℕ → ℕ
round_constant ir = sum_by (λ j. rc (j + 7 * ir) * 2 ^ (2 ^ j - 1)) (range_with_len 0 7)
