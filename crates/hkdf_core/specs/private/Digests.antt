-- The law of a hash function that its digests are bytes, for SHA-256, SHA-384 and SHA-512: proofs,
-- and no definitions.
use Rattle.std.proofs.Common.{ℕ, zero, suc, ◌<◌, List, [], ◌∷◌, arith, slice_index, All}
use Rattle.std.specs.Int.{w32, w64, to_be_bytes, byte_at}
use Rattle.std.proofs.lemmas.List.Elements.{All-append, All-nil, All-cons, All-take}
use Rattle.sha2.specs.Sha256.{sha256, digest_bytes, final_hash, initial_hash_256}
use Rattle.sha2.specs.Sha512 as S512
use Rattle.sha2.specs.Sha512.{sha384, sha512, initial_hash_384, initial_hash_512}

abbrev IsByte : ℕ → Type 0
IsByte byte = byte < 256

-- each byte of a number is below 256
byte_at_below : (i n : ℕ) → IsByte (byte_at i n)
byte_at_below zero n = omega arith
byte_at_below (suc i) n = omega arith

-- a word of 32 bits in bytes
to_be_bytes_are_bytes : (n : ℕ) → All IsByte (to_be_bytes w32 n)
to_be_bytes_are_bytes n =
    All-cons IsByte (byte_at 3 n) (byte_at 2 n ∷ byte_at 1 n ∷ byte_at 0 n ∷ []) (byte_at_below 3 n)
    (All-cons IsByte (byte_at 2 n) (byte_at 1 n ∷ byte_at 0 n ∷ []) (byte_at_below 2 n)
    (All-cons IsByte (byte_at 1 n) (byte_at 0 n ∷ []) (byte_at_below 1 n)
    (All-cons IsByte (byte_at 0 n) [] (byte_at_below 0 n) (All-nil IsByte))))

-- a word of 64 bits in bytes: its upper four, and its lower four
long_be_bytes_are_bytes : (n : ℕ) → All IsByte (to_be_bytes w64 n)
long_be_bytes_are_bytes n =
    All-cons IsByte (byte_at 7 n) (byte_at 6 n ∷ byte_at 5 n ∷ byte_at 4 n ∷ to_be_bytes w32 n) (byte_at_below 7 n)
    (All-cons IsByte (byte_at 6 n) (byte_at 5 n ∷ byte_at 4 n ∷ to_be_bytes w32 n) (byte_at_below 6 n)
    (All-cons IsByte (byte_at 5 n) (byte_at 4 n ∷ to_be_bytes w32 n) (byte_at_below 5 n)
    (All-cons IsByte (byte_at 4 n) (to_be_bytes w32 n) (byte_at_below 4 n) (to_be_bytes_are_bytes n))))

-- words of 32 bits in bytes
digest_bytes_are_bytes : (h : List ℕ) (n : ℕ) → All IsByte (digest_bytes h n)
unfolding digest_bytes
digest_bytes_are_bytes h zero = All-nil IsByte
digest_bytes_are_bytes h (suc n) =
    All-append IsByte (digest_bytes h n) (to_be_bytes w32 (slice_index h n)) (digest_bytes_are_bytes h n) (to_be_bytes_are_bytes (slice_index h n))

-- words of 64 bits in bytes
long_digest_bytes_are_bytes : (h : List ℕ) (n : ℕ) → All IsByte (S512.digest_bytes h n)
unfolding S512.digest_bytes
long_digest_bytes_are_bytes h zero = All-nil IsByte
long_digest_bytes_are_bytes h (suc n) =
    All-append IsByte (S512.digest_bytes h n) (to_be_bytes w64 (slice_index h n)) (long_digest_bytes_are_bytes h n) (long_be_bytes_are_bytes (slice_index h n))

-- a digest is bytes
pub sha256_is_bytes : (message : List ℕ) → All (λ byte. byte < 256) (sha256 message)
unfolding sha256
sha256_is_bytes message = digest_bytes_are_bytes (final_hash initial_hash_256 message) 8

pub sha384_is_bytes : (message : List ℕ) → All (λ byte. byte < 256) (sha384 message)
unfolding sha384
sha384_is_bytes message =
    All-take IsByte 48 (S512.digest_bytes (S512.final_hash initial_hash_384 message) 8)
    (long_digest_bytes_are_bytes (S512.final_hash initial_hash_384 message) 8)

pub sha512_is_bytes : (message : List ℕ) → All (λ byte. byte < 256) (sha512 message)
unfolding sha512
sha512_is_bytes message = long_digest_bytes_are_bytes (S512.final_hash initial_hash_512 message) 8
