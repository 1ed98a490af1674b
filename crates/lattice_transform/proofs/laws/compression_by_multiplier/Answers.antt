use Rattle.std.proofs.Common.{refl}
use Rattle.lattice_transform.proofs.Multiplier.{compress-by-multiplier}
use Rattle.lattice_transform.proofs.laws.compression_by_multiplier.Goals as goal

pub returns-clause-multiplier : goal.returns-clause-multiplier
returns-clause-multiplier c = refl

pub returns-clause-value : goal.returns-clause-value
returns-clause-value c = compress-by-multiplier
