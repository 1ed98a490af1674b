use Rattle.age_core.proofs.Nexts.{one_next}
use Rattle.age_core.proofs.laws.one_next.Goals as goal

pub returns : goal.returns
returns c = one_next
