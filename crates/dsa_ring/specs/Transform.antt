-- The number-theoretic transform of ML-DSA as sums (FIPS 204, sections 2.5 and 7.5), with q = 8380417:
-- number i of the transform of f is f(h(i)), where h(i) is 1753^(2·BitRev8(i) + 1). 1753 is a 512th
-- root of 1.
use Rattle.std.specs.Prelude.{ℕ, ◌+◌, ◌-◌, ◌*◌, ◌^◌, ◌%◌, List, map, slice_index, sum_by}
use Rattle.std.specs.Int.{bit_at}
use Rattle.std.specs.List.{range_with_len}
use Rattle.std.specs.Simd.Lanes.{zip2}
use Rattle.module_lattice.specs.Ring.{times}

-- BitRev8(i): the eight bits of i in reverse order (algorithm 43)
abbrev pub bit_rev8 : ℕ → ℕ
bit_rev8 i = sum_by (λ k. bit_at i k * 2 ^ (7 - k)) (range_with_len 0 8)

-- h(i) = 1753^(2·BitRev8(i) + 1) modulo q
unfoldable pub root : ℕ → ℕ
root i = 1753 ^ (2 * bit_rev8 i + 1) % 8380417

-- the sum over j from 0 to 255 of number j times its weight
abbrev pub weighted_sum : (ℕ → ℕ) → List ℕ → ℕ
weighted_sum weight f = sum_by (λ j. slice_index f j * weight j) (range_with_len 0 256)

-- number i of the transform: the sum of f[j]·h(i)^j
abbrev pub transform_number : List ℕ → ℕ → ℕ
transform_number f i = weighted_sum (λ j. root i ^ j) f % 8380417

-- NTT(f) (algorithm 41)
unfoldable pub transform : List ℕ → List ℕ
transform f = map (transform_number f) (range_with_len 0 256)

-- h(i)^(-j) for a j up to 512, since h(i)^512 is 1 modulo q
abbrev pub root_power_of_minus : ℕ → ℕ → ℕ
root_power_of_minus j i = root i ^ (512 - j)

-- coefficient j of the inverse: 8347681 times the sum of h[i]·h(i)^(-j). 8347681 is 1/256 modulo q.
abbrev pub inverse_coefficient : List ℕ → ℕ → ℕ
inverse_coefficient h j = 8347681 * weighted_sum (root_power_of_minus j) h % 8380417

-- NTT^-1(h) (algorithm 42)
unfoldable pub inverse_transform : List ℕ → List ℕ
inverse_transform h = map (inverse_coefficient h) (range_with_len 0 256)

-- the products, place by place: MultiplyNTT (algorithm 45)
unfoldable pub place_products : List ℕ → List ℕ → List ℕ
place_products a b = zip2 (times 8380417) a b
