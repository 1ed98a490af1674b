-- Products in the transform domain of ML-KEM (FIPS 203, section 4.3.1), where a polynomial is 128
-- pairs. Pair i of f is its numbers 2·i and 2·i + 1, and stands for a0 + a1·X modulo X^2 - g(i).
use Rattle.std.specs.Prelude.{◌≡◌, ℕ, ◌+◌, ◌*◌, ◌-◌, ◌^◌, ◌%◌, ◌<◌, List, [], ◌∷◌, All, length, slice_index, sum_by}
use Rattle.std.specs.List.{flat_map, range_with_len}
use Rattle.std.specs.Int.{bit_at}

-- BitRev7(i): the seven bits of i in reverse order (section 2.3)
abbrev pub bit_rev7 : ℕ → ℕ
bit_rev7 i = sum_by (λ k. bit_at i k * 2 ^ (6 - k)) (range_with_len 0 7)

-- g(i) = 17^(2·BitRev7(i) + 1) modulo 3329
unfoldable pub gamma : ℕ → ℕ
gamma i = 17 ^ (2 * bit_rev7 i + 1) % 3329

-- (a0 + a1·X)·(b0 + b1·X) modulo X^2 - g, as BaseCaseMultiply gives it (algorithm 12)
abbrev pub base_case_product : ℕ → ℕ → ℕ → ℕ → ℕ → List ℕ
base_case_product a0 a1 b0 b1 g = (a0 * b0 + a1 * b1 * g) % 3329 ∷ (a0 * b1 + a1 * b0) % 3329 ∷ []

-- the product of the pairs i of f and g
abbrev pub pair_product : List ℕ → List ℕ → ℕ → List ℕ
pair_product f g i = base_case_product (slice_index f (2 * i)) (slice_index f (2 * i + 1))
    (slice_index g (2 * i)) (slice_index g (2 * i + 1)) (gamma i)

-- the products of all pairs, as MultiplyNTTs gives them (algorithm 11)
unfoldable pub pair_products : List ℕ → List ℕ → List ℕ
pair_products f g = flat_map (pair_product f g) (range_with_len 0 128)

-- ---- sums of such products that are not reduced yet: of a0·b0, of a0·b1 + a1·b0, and of a1·b1, which
-- goes with X^2

-- pair i of the reduced sum
abbrev pub reduced_pair : List ℕ → List ℕ → List ℕ → ℕ → List ℕ
reduced_pair constants linears squares i =
    (slice_index constants i + slice_index squares i * gamma i) % 3329 ∷ slice_index linears i % 3329 ∷ []

-- the reduced sum
unfoldable pub reduced_pairs : List ℕ → List ℕ → List ℕ → List ℕ
reduced_pairs constants linears squares = flat_map (reduced_pair constants linears squares) (range_with_len 0 128)

-- 128 sums below 2^19·3329
pub record IsSums (xs : List ℕ) : Type 0 where
  pub size : length xs ≡ 128
  pub each : All (λ x. x < 1745354752) xs
