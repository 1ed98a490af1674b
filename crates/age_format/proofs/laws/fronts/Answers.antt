use Rattle.age_format.proofs.Fronts.{front_by_cases}
use Rattle.age_format.proofs.Completions.{cases_front}
use Rattle.age_format.proofs.laws.fronts.Goals as goal

pub returns : goal.returns
returns c text = (front_by_cases text, cases_front text)
