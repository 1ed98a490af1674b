use Rattle.decryption_noise.proofs.Results.{bit-of, message-of}
use Rattle.decryption_noise.proofs.laws.decrypts_exactly_inside.Goals as goal

pub returns-clause-bit : goal.returns-clause-bit
returns-clause-bit c = bit-of

pub returns-clause-message : goal.returns-clause-message
returns-clause-message c = message-of
