use Rattle.gcm_core.proofs.SealingLaws.{length-seal_of}
use Rattle.gcm_core.proofs.laws.sealed_len.Goals as goal

pub returns : goal.returns
returns c = length-seal_of
