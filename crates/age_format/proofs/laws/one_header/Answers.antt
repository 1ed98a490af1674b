use Rattle.age_format.proofs.Stanzas.{same_header}
use Rattle.age_format.proofs.laws.one_header.Goals as goal

pub returns : goal.returns
returns c = same_header
