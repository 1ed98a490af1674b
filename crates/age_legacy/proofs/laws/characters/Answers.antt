use Rattle.age_legacy.proofs.Characters.{character_numbered, numbered_character}
use Rattle.age_legacy.proofs.laws.characters.Goals as goal

pub returns : goal.returns
returns c b = (character_numbered b, numbered_character b)
