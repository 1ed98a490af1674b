use Rattle.gcm_core.proofs.SealingLaws.{open_of-seal_of}
use Rattle.gcm_core.proofs.laws.opens_what_was_sealed.Goals as goal

pub returns : goal.returns
returns c = open_of-seal_of
