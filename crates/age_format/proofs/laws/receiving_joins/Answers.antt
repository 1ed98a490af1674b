use Rattle.age_format.proofs.Receipts.{receives_both}
use Rattle.age_format.proofs.laws.receiving_joins.Goals as goal

pub returns : goal.returns
returns c = receives_both
