-- The family of hash functions that stands on SHA-2 (FIPS 180-4). Each of the five begins what it
-- hashes with a letter of its own, so that no two of them hash one text.
use Rattle.std.specs.Prelude.{ℕ, ◌*◌, List, [], ◌∷◌, ◌++◌}
use Rattle.std.specs.List.{flat_map, range_with_len}
use Rattle.sha2.specs.Sha256.{sha224, sha256}
use Rattle.sha2.specs.Sha512.{sha512}
use Rattle.kem_hash.specs.Family.{Family}

-- the letter G in ASCII
abbrev pub letter_g : ℕ
letter_g = 0x47

-- the letter H in ASCII
abbrev pub letter_h : ℕ
letter_h = 0x48

-- the letter J in ASCII
abbrev pub letter_j : ℕ
letter_j = 0x4A

-- the letter P in ASCII, for PRF
abbrev pub letter_p : ℕ
letter_p = 0x50

-- the letter X in ASCII, for XOF
abbrev pub letter_x : ℕ
letter_x = 0x58

-- digest c of PRF: SHA-256 of the letter, the secret s, the byte b and the byte c
abbrev pub prf_digest : List ℕ → ℕ → ℕ → List ℕ
prf_digest s b c = sha256 (letter_p ∷ s ++ b ∷ c ∷ [])

-- digest c of XOF: SHA-224 of the letter, the seed rho, the bytes a and b and the byte c
abbrev pub xof_digest : List ℕ → ℕ → ℕ → ℕ → List ℕ
xof_digest rho a b c = sha224 (letter_x ∷ rho ++ a ∷ b ∷ c ∷ [])

-- The family. The bytes a and b and the number c of a digest are one byte each. PRF joins 2·eta
-- digests of 32 bytes, and XOF 96 digests of 28 bytes.
abbrev pub sha2_family : Family
sha2_family = record {
  g_of = λ x. sha512 (letter_g ∷ x);
  h_of = λ x. sha256 (letter_h ∷ x);
  j_of = λ x. sha256 (letter_j ∷ x);
  prf_of = λ eta s b. flat_map (prf_digest s b) (range_with_len 0 (2 * eta));
  xof_of = λ rho a b. flat_map (xof_digest rho a b) (range_with_len 0 96);
}
