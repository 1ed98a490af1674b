use Rattle.age_format.proofs.Readings.{same_reading}
use Rattle.age_format.proofs.laws.one_reading.Goals as goal

pub returns : goal.returns
returns c = same_reading
