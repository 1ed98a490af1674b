-- The family of hash functions whose PRF repeats one byte of its secret.
use Rattle.std.specs.Prelude.{◌*◌, ◌%◌, replicate, slice_index}
use Rattle.kem_hash.specs.Family.{Family}
use Rattle.kem_hash.specs.Sha2.{sha2_family}

-- PRF is the byte b mod 32 of the secret, 64·eta times; the other functions are those of SHA-2
abbrev pub one_byte_family : Family
one_byte_family = record sha2_family { prf_of = λ eta s b. replicate (64 * eta) (slice_index s (b % 32) % 256) }
