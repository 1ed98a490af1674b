-- The family of hash functions that give zeros.
use Rattle.std.specs.Prelude.{◌*◌, replicate}
use Rattle.kem_hash.specs.Family.{Family, xof_size}

-- zeros, as many as each function is to give
abbrev pub zero_family : Family
zero_family = record {
  g_of = λ x. replicate 64 0;
  h_of = λ x. replicate 32 0;
  j_of = λ x. replicate 32 0;
  prf_of = λ eta s b. replicate (64 * eta) 0;
  xof_of = λ rho a b. replicate xof_size 0;
}
