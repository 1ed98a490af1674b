use Rattle.age_legacy.proofs.Readings.{some_legacy}
use Rattle.age_legacy.proofs.laws.some_reading.Goals as goal

pub returns : goal.returns
returns c = some_legacy
