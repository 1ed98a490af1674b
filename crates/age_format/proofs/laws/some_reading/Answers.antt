use Rattle.age_format.proofs.Readings.{some_reading}
use Rattle.age_format.proofs.laws.some_reading.Goals as goal

pub returns : goal.returns
returns c = some_reading
