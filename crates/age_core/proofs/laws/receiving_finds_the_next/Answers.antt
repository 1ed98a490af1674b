use Rattle.age_core.proofs.Nexts.{next_found, none_malformed, none_ended, none_spent}
use Rattle.age_core.proofs.laws.receiving_finds_the_next.Goals as goal

pub returns-clause-found : goal.returns-clause-found
returns-clause-found c = next_found

pub returns-clause-invalid_data : goal.returns-clause-invalid_data
returns-clause-invalid_data c = none_malformed

pub returns-clause-unexpected_eof : goal.returns-clause-unexpected_eof
returns-clause-unexpected_eof c = none_ended

pub returns-clause-too_much : goal.returns-clause-too_much
returns-clause-too_much c = none_spent
