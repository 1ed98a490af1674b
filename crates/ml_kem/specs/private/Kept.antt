-- What keys keep, beside what contracts see: invariants of their types, which no public clause cites.
use Rattle.std.specs.Prelude.{◌≡◌, ◌≢◌, ◌^◌, ◌<◌, ℕ, List, None, Some, IfSome, All, length, map}
use Rattle.std.specs.Option.{option_map}
use Rattle.kem_hash.specs.Family.{Family}
use Rattle.lattice_transform.specs.Transform.{inverse_transform}
use Rattle.module_lattice.specs.Ring.{IsPolynomial}
use Rattle.module_lattice.specs.Vectors.{RowsHaveLength}
use Rattle.ml_kem.specs.Expanded.{SecretKey, key_of_seed}
use Rattle.ml_kem.specs.Keys.{key_of, rho_part}
use Rattle.ml_kem.specs.Matrix.{matrix}
use Rattle.ml_kem.specs.Parameters.{Parameters}

-- the transforms of the matrix A of rho, by its k rows of k polynomials
pub record IsMatrix (family : Family) (k : ℕ) (rho : List ℕ) (a : List (List (List ℕ))) : Type 0 where
  pub made : matrix family k rho ≡ Some (map (map inverse_transform) a)
  pub count : length a ≡ k
  pub rows : RowsHaveLength k a
  pub polynomials : All (All (IsPolynomial 3329)) a

-- what every key keeps: its vectors have k items, a key from a seed is the one that the seed gives, and
-- its samples are there
pub record IsSecretKey (set : Parameters) (family : Family) (key : SecretKey) : Type 0 where
  pub s_long : length key.s ≡ set.k
  pub s_hat_long : length key.s_hat ≡ set.k
  pub s_hat_narrow : All (λ f. All (λ x. x < 2 ^ 12) f) key.s_hat
  pub seeded : IfSome key.seed (λ seed. option_map (key_of_seed seed) (key_of set family seed) ≡ Some key)
  pub sampled : key.seed ≢ None → matrix family set.k (rho_part set key.ek) ≢ None
