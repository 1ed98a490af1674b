-- The number-theoretic transform as sums (FIPS 203, section 4.3), with q = 3329. The transform of f is
-- 128 pairs: pair i, its numbers 2·i and 2·i + 1, is f modulo X^2 - g(i), where g(i) is
-- 17^(2·BitRev7(i) + 1). There X^(2·j) is g(i)^j.
use Rattle.std.specs.Prelude.{ℕ, ◌+◌, ◌-◌, ◌*◌, ◌^◌, ◌%◌, List, [], ◌∷◌, slice_index, sum_by}
use Rattle.std.specs.List.{flat_map, range_with_len}
use Rattle.module_lattice.specs.Pairs.{gamma}

-- the sum over j from 0 to 127 of number 2·j + parity times its weight
abbrev pub weighted_sum : ℕ → (ℕ → ℕ) → List ℕ → ℕ
weighted_sum parity weight f = sum_by (λ j. slice_index f (2 * j + parity) * weight j) (range_with_len 0 128)

-- number 2·i + parity of the transform: the sum of f[2·j + parity]·g(i)^j
abbrev pub transform_number : List ℕ → ℕ → ℕ → ℕ
transform_number f parity i = weighted_sum parity (λ j. gamma i ^ j) f % 3329

-- T(f)
unfoldable pub transform : List ℕ → List ℕ
transform f = flat_map (λ i. transform_number f 0 i ∷ transform_number f 1 i ∷ []) (range_with_len 0 128)

-- g(i)^(-j) for a j up to 256, since g(i)^256 is 1 modulo q
abbrev pub gamma_power_of_minus : ℕ → ℕ → ℕ
gamma_power_of_minus j i = gamma i ^ (256 - j)

-- coefficient 2·j + parity of the inverse: 3303 times the sum of h[2·i + parity]·g(i)^(-j). 3303 is
-- 1/128 modulo q.
abbrev pub inverse_coefficient : List ℕ → ℕ → ℕ → ℕ
inverse_coefficient h parity j = 3303 * weighted_sum parity (gamma_power_of_minus j) h % 3329

-- InvT(h)
unfoldable pub inverse_transform : List ℕ → List ℕ
inverse_transform h = flat_map (λ j. inverse_coefficient h 0 j ∷ inverse_coefficient h 1 j ∷ []) (range_with_len 0 128)
