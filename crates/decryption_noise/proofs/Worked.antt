-- The worked noise, by one computation.
use Rattle.std.proofs.Common.{◌≡◌, [], refl}
use Rattle.module_lattice.specs.Bits.{bits_of, bits_of_each, number_of, numbers_in, numbers_of}
use Rattle.module_lattice.specs.Groups.{ungroup}
use Rattle.module_lattice.specs.Ring.{product}
use Rattle.ml_kem.specs.Encryption.{decompressed}
use Rattle.ml_kem.specs.Matrix.{noise}
use Rattle.ml_kem.specs.Parameters.{ml_kem_512}
use Rattle.ml_kem.specs.Samples.{cbd}
use Rattle.decryption_noise.specs.Noise.{change, noise_modulo, noise_sum, unrounded_u, unrounded_v}
use Rattle.decryption_noise.specs.Worked.{line, worked_family, worked_key, worked_message, worked_noise}

pub noise-worked : noise_modulo ml_kem_512 worked_family worked_key worked_message [] ≡ worked_noise
unfolding bits_of bits_of_each number_of numbers_in numbers_of ungroup product decompressed noise cbd change noise_sum unrounded_u unrounded_v line worked_family worked_key worked_message worked_noise
noise-worked = refl
