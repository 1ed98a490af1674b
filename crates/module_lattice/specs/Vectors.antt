-- Vectors and matrices of polynomials, as lists of them and lists of rows (FIPS 203, section 2.4).
use Rattle.std.specs.Prelude.{◌≡◌, ℕ, ◌%◌, List, length, map, slice_index, sum_by, All}
use Rattle.std.specs.List.{range_with_len}
use Rattle.std.specs.Simd.Lanes.{zip2}
use Rattle.module_lattice.specs.Ring.{sum, difference, negation, multiple}

-- u + v
abbrev pub vector_sum : ℕ → List (List ℕ) → List (List ℕ) → List (List ℕ)
vector_sum q u v = zip2 (sum q) u v

-- u - v
abbrev pub vector_difference : ℕ → List (List ℕ) → List (List ℕ) → List (List ℕ)
vector_difference q u v = zip2 (difference q) u v

-- -u
abbrev pub vector_negation : ℕ → List (List ℕ) → List (List ℕ)
vector_negation q u = map (negation q) u

-- a·u, for a number a
abbrev pub vector_multiple : ℕ → ℕ → List (List ℕ) → List (List ℕ)
vector_multiple q a u = map (multiple q a) u

-- f times each item of u, for a product of polynomials
abbrev pub vector_product : (List ℕ → List ℕ → List ℕ) → List ℕ → List (List ℕ) → List (List ℕ)
vector_product product f u = map (product f) u

-- the sum of polynomials, which is zero for none
abbrev pub total : ℕ → List (List ℕ) → List ℕ
total q fs = map (λ k. sum_by (λ f. slice_index f k) fs % q) (range_with_len 0 256)

-- the sum of the products item by item, for a product of polynomials
abbrev pub dot_product : ℕ → (List ℕ → List ℕ → List ℕ) → List (List ℕ) → List (List ℕ) → List ℕ
dot_product q product u v = total q (zip2 product u v)

-- a matrix times a vector, row by row
abbrev pub matrix_product : ℕ → (List ℕ → List ℕ → List ℕ) → List (List (List ℕ)) → List (List ℕ) → List (List ℕ)
matrix_product q product rows v = map (λ row. dot_product q product row v) rows

-- each row has this length
abbrev pub RowsHaveLength : ℕ → List (List (List ℕ)) → Type 0
RowsHaveLength n rows = All (λ row. length row ≡ n) rows
