use Rattle.age_format.proofs.Stanzas.{the_same_stanza as same_stanza}
use Rattle.age_format.proofs.laws.no_spelling_begins_another.Goals as goal

pub returns-clause-stanzas : goal.returns-clause-stanzas
returns-clause-stanzas c s t more rest h k e = (same_stanza s t more rest h k e).0

pub returns-clause-rests : goal.returns-clause-rests
returns-clause-rests c s t more rest h k e = (same_stanza s t more rest h k e).1
