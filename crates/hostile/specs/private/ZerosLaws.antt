-- The family of zeros is lawful: a proof that its `impl` cites, and no definition.
use Rattle.std.proofs.Common.{ℕ, ◌*◌, ◌<◌, replicate, arith, lit<}
use Rattle.std.proofs.lemmas.List.{get_or-replicate, length-replicate}
use Rattle.kem_hash.specs.Family.{AreBytes, IsLawful}
use Rattle.hostile.specs.Zeros.{zero_family}

repeated-are_bytes : (n x : ℕ) → x < 256 → AreBytes n (replicate n x)
repeated-are_bytes n x low = record {
  size = length-replicate n x;
  each = λ k d within. rw (get_or-replicate n k x d (omega (arith, within, length-replicate n x))) low;
}

zeros-are_bytes : (n : ℕ) → AreBytes n (replicate n 0)
zeros-are_bytes n = repeated-are_bytes n 0 (lit< tt)

pub zero_family-is_lawful : IsLawful zero_family
zero_family-is_lawful = record {
  g_is = λ x. zeros-are_bytes 64;
  h_is = λ x. zeros-are_bytes 32;
  j_is = λ x. zeros-are_bytes 32;
  prf_is = λ eta s b. zeros-are_bytes (64 * eta);
  xof_is = λ rho a b. zeros-are_bytes 2688;
}
