use Rattle.decryption_noise.proofs.Results.{identity-of, length-noise_of, noise_of-within}
use Rattle.decryption_noise.proofs.laws.noise_stands_beside_the_message.Goals as goal

pub returns-clause-identity : goal.returns-clause-identity
returns-clause-identity c = identity-of

pub returns-clause-size : goal.returns-clause-size
returns-clause-size c = length-noise_of

pub returns-clause-within : goal.returns-clause-within
returns-clause-within c = noise_of-within
