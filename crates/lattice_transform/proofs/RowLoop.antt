-- The loops over the rows of a layer and over the columns of two rows.
use Rattle.std.proofs.Common.{◌≡◌, ℕ, suc, ◌+◌, ◌-◌, ◌*◌, ◌/◌, ◌%◌, ◌<◌, List, sym, ap, ap₂, ◌∙◌, arith}
use Rattle.module_lattice.specs.Ring.{butterfly}
use Rattle.lattice_transform.specs.Layers.{inverse_butterfly, zeta}
use Rattle.lattice_transform.specs.private.Rows.{AreRows, first_in_rows, inverse_row_butterflies, place_back, place_of_zeta, row_butterflies, zeta_number}

-- a row and a column of their butterfly
row-of : (row column : ℕ) → column < 16 → (16 * row + column) / 16 ≡ row
row-of row column inside = omega arith

column-of : (row column : ℕ) → column < 16 → (16 * row + column) % 16 ≡ column
column-of row column inside = omega arith

first-is : (half row column : ℕ) → column < 16 → 16 * (row + half * (row / half)) + column ≡ first_in_rows half (16 * row + column)
first-is half row column inside =
    ap₂ (λ (r c : ℕ). 16 * (r + half * (r / half)) + c) (sym (row-of row column inside)) (sym (column-of row column inside))

last_two : (a b c : ℕ) → a + b + c ≡ a + c + b
last_two a b c = omega arith

second-is : (half row column : ℕ) → column < 16
    → 16 * (row + half * (row / half)) + 16 * half + column ≡ first_in_rows half (16 * row + column) + 16 * half
second-is half row column inside = last_two (16 * (row + half * (row / half))) (16 * half) column ∙ ap (λ (p : ℕ). p + 16 * half) (first-is half row column inside)

-- the places of a butterfly are inside
pub first-inside : (half step row column : ℕ) → AreRows half step → row < 8 → column < 16 → 16 * (row + half * (row / half)) + column < 256
first-inside half step row column are low inside =
    let here : first_in_rows half (16 * row + column) + 16 * half < 256 = are.inside (16 * row + column) (omega arith) in
    omega (arith, here, first-is half row column inside)

pub second-inside : (half step row column : ℕ) → AreRows half step → row < 8 → column < 16
    → 16 * (row + half * (row / half)) + 16 * half + column < 256
second-inside half step row column are low inside =
    let here : first_in_rows half (16 * row + column) + 16 * half < 256 = are.inside (16 * row + column) (omega arith) in
    omega (arith, here, second-is half row column inside)

place-is : (half step row column : ℕ) → column < 16
    → (1 + 15 * step) * (8 / half + row / half) + step * column ≡ place_of_zeta half step (16 * row + column)
place-is half step row column inside =
    ap₂ (λ (r c : ℕ). (1 + 15 * step) * (8 / half + r / half) + step * c) (sym (row-of row column inside)) (sym (column-of row column inside))

pub place-inside : (half step row column : ℕ) → AreRows half step → row < 8 → column < 16
    → (1 + 15 * step) * (8 / half + row / half) + step * column < 128
place-inside half step row column are low inside =
    let here : place_of_zeta half step (16 * row + column) < 128 = are.places (16 * row + column) (omega arith) in
    omega (arith, here, place-is half step row column inside)

-- one butterfly more
pub next-in-row : (half step row column z : ℕ) (f v w : List ℕ) → column < 16
    → w ≡ butterfly 3329 (16 * (row + half * (row / half)) + column) (16 * (row + half * (row / half)) + 16 * half + column) z v
    → z ≡ zeta (zeta_number ((1 + 15 * step) * (8 / half + row / half) + step * column))
    → v ≡ row_butterflies half step (16 * row + column) f → w ≡ row_butterflies half step (16 * row + (column + 1)) f
unfolding row_butterflies
next-in-row half step row column z f v w inside made is before =
    let k : ℕ = 16 * row + column in
    let more : suc k ≡ 16 * row + (column + 1) = omega arith in
    made
    ∙ ap₂ (λ i j. butterfly 3329 i j z v) (first-is half row column inside) (second-is half row column inside)
    ∙ ap₂ (λ z v. butterfly 3329 (first_in_rows half k) (first_in_rows half k + 16 * half) z v)
    (is ∙ ap (λ p. zeta (zeta_number p)) (place-is half step row column inside)) before
    ∙ ap (λ (n : ℕ). row_butterflies half step n f) more

-- as many butterflies
pub rows-same : (half step n m : ℕ) (f v : List ℕ) → n ≡ m → v ≡ row_butterflies half step n f → v ≡ row_butterflies half step m f
rows-same half step n m f v same made = made ∙ ap (λ (n : ℕ). row_butterflies half step n f) same

-- ---- the way back

back-is : (half step row column : ℕ) → column < 16
    → (1 + 15 * step) * (16 / half - 1 - row / half) + step * (15 - column) ≡ place_back half step (16 * row + column)
back-is half step row column inside =
    ap₂ (λ (r c : ℕ). (1 + 15 * step) * (16 / half - 1 - r / half) + step * (15 - c)) (sym (row-of row column inside)) (sym (column-of row column inside))

pub back-inside : (half step row column : ℕ) → AreRows half step → row < 8 → column < 16
    → (1 + 15 * step) * (16 / half - 1 - row / half) + step * (15 - column) < 128
back-inside half step row column are low inside =
    let here : place_back half step (16 * row + column) < 128 = are.back (16 * row + column) (omega arith) in
    omega (arith, here, back-is half step row column inside)

pub next-back : (half step row column z : ℕ) (f v w : List ℕ) → column < 16
    → w ≡ inverse_butterfly (16 * (row + half * (row / half)) + column) (16 * (row + half * (row / half)) + 16 * half + column) z v
    → z ≡ zeta (zeta_number ((1 + 15 * step) * (16 / half - 1 - row / half) + step * (15 - column)))
    → v ≡ inverse_row_butterflies half step (16 * row + column) f → w ≡ inverse_row_butterflies half step (16 * row + (column + 1)) f
unfolding inverse_row_butterflies
next-back half step row column z f v w inside made is before =
    let k : ℕ = 16 * row + column in
    let more : suc k ≡ 16 * row + (column + 1) = omega arith in
    made
    ∙ ap₂ (λ i j. inverse_butterfly i j z v) (first-is half row column inside) (second-is half row column inside)
    ∙ ap₂ (λ z v. inverse_butterfly (first_in_rows half k) (first_in_rows half k + 16 * half) z v)
    (is ∙ ap (λ p. zeta (zeta_number p)) (back-is half step row column inside)) before
    ∙ ap (λ (n : ℕ). inverse_row_butterflies half step n f) more

pub back-same : (half step n m : ℕ) (f v : List ℕ) → n ≡ m → v ≡ inverse_row_butterflies half step n f → v ≡ inverse_row_butterflies half step m f
back-same half step n m f v same made = made ∙ ap (λ (n : ℕ). inverse_row_butterflies half step n f) same
