use Rattle.age_format.proofs.Readings.{same_stanzas_before, done_or_none}
use Rattle.age_format.proofs.laws.one_first_done.Goals as goal

pub returns-clause-one : goal.returns-clause-one
returns-clause-one c = same_stanzas_before

pub returns-clause-or_none : goal.returns-clause-or_none
returns-clause-or_none c = done_or_none
