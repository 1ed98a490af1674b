-- The parameter sets of ML-KEM (FIPS 203, section 8, tables 2 and 3).
use Rattle.std.specs.Prelude.{◌≡◌, ◌⊎◌, ℕ}

-- the modulus of the coefficients (section 2.3)
abbrev pub q : ℕ
q = 3329

-- a set: the number k of polynomials in a vector, how wide each noise is, the bits that remain of a
-- coefficient of u and of v, and the lengths in bytes of an encapsulation key, a ciphertext and an
-- expanded decapsulation key
pub record Parameters : Type 0 where
  pub k : ℕ
  pub eta1 : ℕ
  pub eta2 : ℕ
  pub du : ℕ
  pub dv : ℕ
  pub ek_size : ℕ
  pub ct_size : ℕ
  pub dk_size : ℕ

-- ML-KEM-512
abbrev pub ml_kem_512 : Parameters
ml_kem_512 = record { k = 2; eta1 = 3; eta2 = 2; du = 10; dv = 4; ek_size = 800; ct_size = 768; dk_size = 1632 }

-- ML-KEM-768
abbrev pub ml_kem_768 : Parameters
ml_kem_768 = record { k = 3; eta1 = 2; eta2 = 2; du = 10; dv = 4; ek_size = 1184; ct_size = 1088; dk_size = 2400 }

-- ML-KEM-1024
abbrev pub ml_kem_1024 : Parameters
ml_kem_1024 = record { k = 4; eta1 = 2; eta2 = 2; du = 11; dv = 5; ek_size = 1568; ct_size = 1568; dk_size = 3168 }

-- a row of the table
abbrev pub IsSet : Parameters → Type 0
IsSet set = (set ≡ ml_kem_512) ⊎ (set ≡ ml_kem_768) ⊎ (set ≡ ml_kem_1024)
