use Rattle.age_format.proofs.Receipts.{front_begins_none}
use Rattle.age_format.proofs.laws.fronts_begin_none.Goals as goal

pub returns : goal.returns
returns c = front_begins_none
