use Rattle.key_der.proofs.OneAnswer.{one_private, one_public}
use Rattle.key_der.proofs.laws.one_answer.Goals as goal

pub returns : goal.returns
returns c = record { private = one_private; public = one_public }
