use Rattle.age_format.proofs.Receipts.{malformed_gives_none, malformed_stays}
use Rattle.age_format.proofs.laws.malformed_bytes_stay.Goals as goal

pub returns-clause-none_given : goal.returns-clause-none_given
returns-clause-none_given c = malformed_gives_none

pub returns-clause-same : goal.returns-clause-same
returns-clause-same c = malformed_stays
