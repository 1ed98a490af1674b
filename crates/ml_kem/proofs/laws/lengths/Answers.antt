use Rattle.std.proofs.Common.{sym}
use Rattle.ml_kem.proofs.Encoded.{ct_size-is, dk_size-is, ek_size-is}
use Rattle.ml_kem.proofs.laws.lengths.Goals as goal

pub returns-clause-key : goal.returns-clause-key
returns-clause-key c = ek_size-is

pub returns-clause-ciphertext : goal.returns-clause-ciphertext
returns-clause-ciphertext c = ct_size-is

pub returns-clause-expanded : goal.returns-clause-expanded
returns-clause-expanded c set is = sym (dk_size-is set is)
