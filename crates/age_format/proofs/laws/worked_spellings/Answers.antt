use Rattle.std.proofs.Common.{refl}
use Rattle.base64.specs.Rfc4648.{encode_symbols}
use Rattle.age_format.proofs.laws.worked_spellings.Goals as goal

pub returns-clause-done : goal.returns-clause-done
unfolding encode_symbols
returns-clause-done c = refl

pub returns-clause-test : goal.returns-clause-test
unfolding encode_symbols
returns-clause-test c = refl

pub returns-clause-zeros : goal.returns-clause-zeros
unfolding encode_symbols
returns-clause-zeros c = refl
