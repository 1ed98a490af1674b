use Rattle.std.proofs.Common.{refl}
use Rattle.bech32_long.proofs.ReadLaws.{character-value_of, value_of-character}
use Rattle.bech32_long.proofs.laws.characters.Goals as goal

pub returns-clause-count : goal.returns-clause-count
returns-clause-count c = refl

pub returns-clause-values : goal.returns-clause-values
returns-clause-values c = value_of-character

pub returns-clause-back : goal.returns-clause-back
returns-clause-back c = character-value_of
