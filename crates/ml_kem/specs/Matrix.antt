-- The matrix of a public seed, and noise (FIPS 203, algorithm 13, lines 3 to 15).
use Rattle.std.specs.Prelude.{ℕ, List, [], ◌∷◌, Option, Some, None, map}
use Rattle.std.specs.List.{range_with_len, slice_index_or}
use Rattle.std.specs.Option.{option_map}
use Rattle.kem_hash.specs.Family.{Family}
use Rattle.ml_kem.specs.Samples.{cbd, sample}
use Rattle.lattice_transform.specs.Transform.{inverse_transform}

-- each value, or none where one of them is none
abbrev pub all_or_none : {X : Type 0} → List (Option X) → Option (List X)
all_or_none [] = Some []
all_or_none (None ∷ xs) = None
all_or_none (Some x ∷ xs) = option_map (λ ys. x ∷ ys) (all_or_none xs)

-- entry (i, j) of the matrix A as a polynomial of the ring: the sample of XOF(rho, j, i) is its
-- transform (line 5)
abbrev pub entry : Family → List ℕ → ℕ → ℕ → Option (List ℕ)
entry family rho i j = option_map inverse_transform (sample (family.xof_of rho j i))

-- row i of A
unfoldable pub row : Family → ℕ → List ℕ → ℕ → Option (List (List ℕ))
row family k rho i = all_or_none (map (entry family rho i) (range_with_len 0 k))

-- the matrix A by its k rows of k polynomials, or none where a sample is none
unfoldable pub matrix : Family → ℕ → List ℕ → Option (List (List (List ℕ)))
matrix family k rho = all_or_none (map (row family k rho) (range_with_len 0 k))

-- column i of a matrix
abbrev pub column : List (List (List ℕ)) → ℕ → List (List ℕ)
column rows i = map (λ row. slice_index_or row i []) rows

-- the transpose of a matrix of k columns
abbrev pub transposed : ℕ → List (List (List ℕ)) → List (List (List ℕ))
transposed k rows = map (column rows) (range_with_len 0 k)

-- polynomial b of the noise that a secret seed gives: CBD of PRF(seed, b) (lines 9 and 13)
abbrev pub noise_polynomial : Family → ℕ → List ℕ → ℕ → List ℕ
noise_polynomial family eta seed b = cbd eta (family.prf_of eta seed b)

-- so many polynomials of noise, from number `first` on
unfoldable pub noise : Family → ℕ → List ℕ → ℕ → ℕ → List (List ℕ)
noise family eta seed first count = map (noise_polynomial family eta seed) (range_with_len first count)
