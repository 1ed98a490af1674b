-- The hash functions of ML-KEM as five functions on lists of bytes. They stand in the places that
-- FIPS 203, section 4.1, gives to functions of SHA-3: G, H, J, PRF and XOF.
use Rattle.std.specs.Prelude.{◌≡◌, ℕ, ◌*◌, ◌<◌, List, length, take, drop, All}

-- what each function of a family gives: PRF for a parameter eta, a secret s and a byte b, and XOF for
-- a seed rho and two bytes a and b
pub record Family : Type 0 where
  pub g_of : List ℕ → List ℕ
  pub h_of : List ℕ → List ℕ
  pub j_of : List ℕ → List ℕ
  pub prf_of : ℕ → List ℕ → ℕ → List ℕ
  pub xof_of : List ℕ → ℕ → ℕ → List ℕ

-- n bytes
pub record AreBytes (n : ℕ) (bytes : List ℕ) : Type 0 where
  pub size : length bytes ≡ n
  pub each : All (λ x. x < 256) bytes

-- the length of the output of XOF: 16 blocks of 168 bytes, where FIPS 203 reads on without an end
abbrev pub xof_size : ℕ
xof_size = 2688

-- how long the outputs of a family are
pub record IsLawful (family : Family) : Type 0 where
  pub g_is : (x : List ℕ) → AreBytes 64 (family.g_of x)
  pub h_is : (x : List ℕ) → AreBytes 32 (family.h_of x)
  pub j_is : (x : List ℕ) → AreBytes 32 (family.j_of x)
  pub prf_is : (eta : ℕ) (s : List ℕ) (b : ℕ) → AreBytes (64 * eta) (family.prf_of eta s b)
  pub xof_is : (rho : List ℕ) (a b : ℕ) → AreBytes xof_size (family.xof_of rho a b)

-- block n of an output of XOF
abbrev pub xof_block : List ℕ → ℕ → List ℕ
xof_block output n = take 168 (drop (168 * n) output)
