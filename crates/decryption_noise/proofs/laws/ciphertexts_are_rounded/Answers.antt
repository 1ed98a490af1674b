use Rattle.decryption_noise.proofs.Results.{ciphertext-of, u-of, v-of}
use Rattle.decryption_noise.proofs.laws.ciphertexts_are_rounded.Goals as goal

pub returns-clause-ciphertext : goal.returns-clause-ciphertext
returns-clause-ciphertext c = ciphertext-of

pub returns-clause-u : goal.returns-clause-u
returns-clause-u c = u-of

pub returns-clause-v : goal.returns-clause-v
returns-clause-v c = v-of
