use Rattle.std.proofs.Common.{refl}
use Rattle.base64.specs.Rfc4648.{encode_symbols}
use Rattle.age_format.proofs.laws.worked_lines.Goals as goal

pub returns-clause-full : goal.returns-clause-full
unfolding encode_symbols
returns-clause-full c = refl

pub returns-clause-longer : goal.returns-clause-longer
unfolding encode_symbols
returns-clause-longer c = refl
