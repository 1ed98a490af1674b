use Rattle.key_der.proofs.OneAnswer.{some_private, some_public}
use Rattle.key_der.proofs.laws.some_answer.Goals as goal

pub returns : goal.returns
returns c = record { private = some_private; public = some_public }
