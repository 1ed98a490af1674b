-- The family that stands on SHA-2 is lawful: a proof that its `impl` cites, and no definition.
use Rattle.std.proofs.Common.{◌≡◌, ℕ, zero, suc, ◌+◌, ◌*◌, ◌<◌, List, [], ◌∷◌, slice_index, All, ap₂, ◌∙◌, arith, length-append}
use Rattle.std.specs.Int.{w32, w64, to_be_bytes, byte_at}
use Rattle.std.specs.List.{flat_map, range_with_len}
use Rattle.std.proofs.lemmas.List.Elements.{All-append, All-cons, All-nil, All-take}
use Rattle.sha2.specs.Sha256.{sha224, sha256, initial_hash_224, initial_hash_256}
use Rattle.sha2.specs.Sha256 as S256
use Rattle.sha2.specs.Sha512.{sha512, initial_hash_512}
use Rattle.sha2.specs.Sha512 as S512
use Rattle.sha2.proofs.Facts256.{length-sha224, length-sha256}
use Rattle.sha2.proofs.Facts512.{length-sha512}
use Rattle.kem_hash.specs.Family.{AreBytes, IsLawful}
use Rattle.kem_hash.specs.Sha2.{letter_g, letter_h, letter_j, prf_digest, sha2_family, xof_digest}

abbrev IsByte : ℕ → Type 0
IsByte x = x < 256

-- what is taken of a number is a byte
byte_at-below : (i n : ℕ) → byte_at i n < 256
byte_at-below zero n = omega arith
byte_at-below (suc i) n = omega arith

-- the bytes i - 1 to 0 of a number
bytes_down : ℕ → ℕ → List ℕ
bytes_down zero n = []
bytes_down (suc i) n = byte_at i n ∷ bytes_down i n

All-bytes_down : (i n : ℕ) → All IsByte (bytes_down i n)
unfolding bytes_down
All-bytes_down zero n = All-nil IsByte
All-bytes_down (suc i) n = All-cons IsByte (byte_at i n) (bytes_down i n) (byte_at-below i n) (All-bytes_down i n)

All-word : (n : ℕ) → All IsByte (to_be_bytes w32 n)
unfolding bytes_down
All-word n = All-bytes_down 4 n

All-long_word : (n : ℕ) → All IsByte (to_be_bytes w64 n)
unfolding bytes_down
All-long_word n = All-bytes_down 8 n

All-words : (h : List ℕ) (n : ℕ) → All IsByte (S256.digest_bytes h n)
unfolding S256.digest_bytes
All-words h zero = All-nil IsByte
All-words h (suc n) = All-append IsByte (S256.digest_bytes h n) (to_be_bytes w32 (slice_index h n)) (All-words h n) (All-word (slice_index h n))

All-long_words : (h : List ℕ) (n : ℕ) → All IsByte (S512.digest_bytes h n)
unfolding S512.digest_bytes
All-long_words h zero = All-nil IsByte
All-long_words h (suc n) = All-append IsByte (S512.digest_bytes h n) (to_be_bytes w64 (slice_index h n)) (All-long_words h n) (All-long_word (slice_index h n))

sha224-is : (m : List ℕ) → AreBytes 28 (sha224 m)
unfolding sha224
sha224-is m = record {
  size = length-sha224 m;
  each = All-take IsByte 28 (S256.digest_bytes (S256.final_hash initial_hash_224 m) 8) (All-words (S256.final_hash initial_hash_224 m) 8);
}

sha256-is : (m : List ℕ) → AreBytes 32 (sha256 m)
unfolding sha256
sha256-is m = record { size = length-sha256 m; each = All-words (S256.final_hash initial_hash_256 m) 8 }

sha512-is : (m : List ℕ) → AreBytes 64 (sha512 m)
unfolding sha512
sha512-is m = record { size = length-sha512 m; each = All-long_words (S512.final_hash initial_hash_512 m) 8 }

-- n digests of one size, joined
joined-is : (digest : ℕ → List ℕ) (size : ℕ) → ((c : ℕ) → AreBytes size (digest c))
    → (a n : ℕ) → AreBytes (size * n) (flat_map digest (range_with_len a n))
joined-is digest size each a zero = record { size = omega arith; each = All-nil IsByte }
joined-is digest size each a (suc n) =
    let rest : AreBytes (size * n) (flat_map digest (range_with_len (a + 1) n)) = joined-is digest size each (a + 1) n in
    record {
      size = length-append (digest a) (flat_map digest (range_with_len (a + 1) n)) ∙ ap₂ (λ (i j : ℕ). i + j) ((each a).size) rest.size ∙ omega arith;
      each = All-append IsByte (digest a) (flat_map digest (range_with_len (a + 1) n)) ((each a).each) rest.each;
    }

resized : (m n : ℕ) (bytes : List ℕ) → m ≡ n → AreBytes m bytes → AreBytes n bytes
resized m n bytes e are = record { size = are.size ∙ e; each = are.each }

pub sha2_family-is_lawful : IsLawful sha2_family
sha2_family-is_lawful = record {
  g_is = λ x. sha512-is (letter_g ∷ x);
  h_is = λ x. sha256-is (letter_h ∷ x);
  j_is = λ x. sha256-is (letter_j ∷ x);
  prf_is = λ eta s b. resized (32 * (2 * eta)) (64 * eta) _ (omega arith)
      (joined-is (prf_digest s b) 32 (λ c. sha256-is _) 0 (2 * eta));
  xof_is = λ rho a b. joined-is (xof_digest rho a b) 28 (λ c. sha224-is _) 0 96;
}
