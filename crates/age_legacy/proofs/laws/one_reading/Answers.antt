use Rattle.age_legacy.proofs.Readings.{one_legacy}
use Rattle.age_legacy.proofs.laws.one_reading.Goals as goal

pub returns : goal.returns
returns c = one_legacy c.no_spelling_begins_another.ensures.stanzas c.no_spelling_begins_another.ensures.rests c.fronts_begin_none.ensures c.one_header.ensures
