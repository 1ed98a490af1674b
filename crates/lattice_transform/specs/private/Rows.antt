-- Layers of butterflies over a list that is read as 16 rows of 16 numbers. The private calls of the
-- transform by arrays speak of them.
use Rattle.std.specs.Prelude.{ℕ, zero, suc, ◌+◌, ◌-◌, ◌*◌, ◌/◌, ◌%◌, ◌<◌, ◌≤◌, List, map, slice_index, nat_lt, if◌then◌else◌}
use Rattle.std.specs.List.{range_with_len}
use Rattle.module_lattice.specs.Ring.{butterfly}
use Rattle.lattice_transform.specs.Layers.{first_place, inverse_butterfly, zeta}

-- where rows and columns change places: number k is the one that stood here
abbrev pub across : ℕ → ℕ
across k = 16 * (k % 16) + k / 16

unfoldable pub transposed : List ℕ → List ℕ
transposed f = map (λ k. slice_index f (across k)) (range_with_len 0 256)

-- where two halves are put together by turns: number k is the one that stood here
abbrev pub by_turns : ℕ → ℕ
by_turns k = k / 2 + 128 * (k % 2)

unfoldable pub shuffled : List ℕ → List ℕ
shuffled f = map (λ k. slice_index f (by_turns k)) (range_with_len 0 256)

-- the greatest power of 2 up to c, for c from 1 to 7
abbrev pub power_below : ℕ → ℕ
power_below c = if nat_lt c 2 then 1 else (if nat_lt c 4 then 2 else 4)

-- which zeta stands at place p of the table for rows: one of the first 16, or column p % 16 of row p / 16
abbrev pub zeta_number : ℕ → ℕ
zeta_number p = if nat_lt p 16 then p else (power_below (p / 16) * (16 + p % 16) + (p / 16 - power_below (p / 16)))

-- Butterfly k of a layer over rows joins column k % 16 of two rows that stand `half` apart. With step 0
-- all butterflies of two rows turn by one zeta, and with step 1 each column has its own.
abbrev pub first_in_rows : ℕ → ℕ → ℕ
first_in_rows half k = 16 * first_place half (k / 16) + k % 16

abbrev pub place_of_zeta : ℕ → ℕ → ℕ → ℕ
place_of_zeta half step k = (1 + 15 * step) * (8 / half + k / 16 / half) + step * (k % 16)

-- a list after the first n butterflies of the layer
unfoldable pub row_butterflies : ℕ → ℕ → ℕ → List ℕ → List ℕ
row_butterflies half step zero f = f
row_butterflies half step (suc n) f = butterfly 3329 (first_in_rows half n) (first_in_rows half n + 16 * half) (zeta (zeta_number (place_of_zeta half step n))) (row_butterflies half step n f)

-- ---- the way back, by the same zetas from the last

abbrev pub place_back : ℕ → ℕ → ℕ → ℕ
place_back half step k = (1 + 15 * step) * (16 / half - 1 - k / 16 / half) + step * (15 - k % 16)

-- a list after the first n butterflies of the layer back
unfoldable pub inverse_row_butterflies : ℕ → ℕ → ℕ → List ℕ → List ℕ
inverse_row_butterflies half step zero f = f
inverse_row_butterflies half step (suc n) f = inverse_butterfly (first_in_rows half n) (first_in_rows half n + 16 * half) (zeta (zeta_number (place_back half step n))) (inverse_row_butterflies half step n f)

-- rows half apart, and a step, at which every place is inside
pub record AreRows (half step : ℕ) : Type 0 where
  pub some : 1 ≤ half
  pub few : half ≤ 8
  pub one : step ≤ 1
  pub inside : (k : ℕ) → k < 128 → first_in_rows half k + 16 * half < 256
  pub before : (row : ℕ) → row < 8 → row / half < 16 / half
  pub places : (k : ℕ) → k < 128 → place_of_zeta half step k < 128
  pub back : (k : ℕ) → k < 128 → place_back half step k < 128
