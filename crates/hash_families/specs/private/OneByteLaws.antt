-- The family whose PRF repeats one byte is lawful: a proof that its `impl` cites, and no definition.
use Rattle.std.proofs.Common.{ℕ, ◌*◌, ◌%◌, ◌<◌, replicate, slice_index, arith}
use Rattle.std.proofs.Math.Nat.{mod-lt}
use Rattle.std.proofs.lemmas.List.{get_or-replicate, length-replicate}
use Rattle.kem_hash.specs.Family.{AreBytes, IsLawful}
use Rattle.kem_hash.specs.private.Sha2Laws.{sha2_family-is_lawful}
use Rattle.hash_families.specs.OneByte.{one_byte_family}

repeated-are_bytes : (n x : ℕ) → x < 256 → AreBytes n (replicate n x)
repeated-are_bytes n x low = record {
  size = length-replicate n x;
  each = λ k d within. rw (get_or-replicate n k x d (omega (arith, within, length-replicate n x))) low;
}

pub one_byte_family-is_lawful : IsLawful one_byte_family
one_byte_family-is_lawful = record {
  g_is = sha2_family-is_lawful.g_is;
  h_is = sha2_family-is_lawful.h_is;
  j_is = sha2_family-is_lawful.j_is;
  prf_is = λ eta s b. repeated-are_bytes (64 * eta) (slice_index s (b % 32) % 256) (mod-lt (slice_index s (b % 32)) (omega arith));
  xof_is = sha2_family-is_lawful.xof_is;
}
