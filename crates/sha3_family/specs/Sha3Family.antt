-- The hash functions that FIPS 203 names (section 4.1), which are those of FIPS 202. Lengths are in bytes
-- here, and in bits there.
use Rattle.std.specs.Prelude.{◌*◌, [], ◌∷◌, ◌++◌}
use Rattle.sha3.specs.Sha3.{sha3_256, sha3_512, shake128, shake256}
use Rattle.kem_hash.specs.Family.{Family, xof_size}

-- PRF is (4.3), H and J are (4.4), G is (4.5), and XOF is SHAKE128 (4.1). The bytes a and b of XOF are
-- those that algorithm 13 puts behind rho.
abbrev pub sha3_family : Family
sha3_family = record {
  g_of = λ x. sha3_512 x;
  h_of = λ x. sha3_256 x;
  j_of = λ x. shake256 x 32;
  prf_of = λ eta s b. shake256 (s ++ b ∷ []) (64 * eta);
  xof_of = λ rho a b. shake128 (rho ++ a ∷ b ∷ []) xof_size;
}
