use Rattle.std.proofs.Common.{refl}
use Rattle.age_legacy.specs.Legacy.{is_character, run_of}
use Rattle.age_legacy.proofs.laws.worked_chunks.Goals as goal

pub returns-clause-two : goal.returns-clause-two
unfolding run_of is_character
returns-clause-two c = refl

pub returns-clause-behind : goal.returns-clause-behind
unfolding run_of is_character
returns-clause-behind c = refl

pub returns-clause-one : goal.returns-clause-one
unfolding run_of is_character
returns-clause-one c = refl

pub returns-clause-fed : goal.returns-clause-fed
unfolding is_character
returns-clause-fed c = refl
