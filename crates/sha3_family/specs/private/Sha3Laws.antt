-- The family that FIPS 203 names is lawful: a proof that its `impl` cites, and no definition.
use Rattle.std.proofs.Common.{◌*◌, [], ◌∷◌, ◌++◌}
use Rattle.sha3.proofs.Sizes.{length-sha3_256, length-sha3_512, length-shake128, length-shake256, All-sha3_256, All-sha3_512, All-shake128, All-shake256}
use Rattle.kem_hash.specs.Family.{IsLawful, xof_size}
use Rattle.sha3_family.specs.Sha3Family.{sha3_family}

pub sha3_family-is_lawful : IsLawful sha3_family
sha3_family-is_lawful = record {
  g_is = λ x. record { size = length-sha3_512 x; each = All-sha3_512 x };
  h_is = λ x. record { size = length-sha3_256 x; each = All-sha3_256 x };
  j_is = λ x. record { size = length-shake256 x 32; each = All-shake256 x 32 };
  prf_is = λ eta s b. record { size = length-shake256 (s ++ b ∷ []) (64 * eta); each = All-shake256 (s ++ b ∷ []) (64 * eta) };
  xof_is = λ rho a b. record { size = length-shake128 (rho ++ a ∷ b ∷ []) xof_size; each = All-shake128 (rho ++ a ∷ b ∷ []) xof_size };
}
