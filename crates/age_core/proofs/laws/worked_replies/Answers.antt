use Rattle.std.proofs.Common.{refl}
use Rattle.base64.specs.Rfc4648.{encode_symbols}
use Rattle.age_core.proofs.laws.worked_replies.Goals as goal

pub returns-clause-ok : goal.returns-clause-ok
unfolding encode_symbols
returns-clause-ok c = refl

pub returns-clause-metadata : goal.returns-clause-metadata
unfolding encode_symbols
returns-clause-metadata c = refl

pub returns-clause-fail : goal.returns-clause-fail
unfolding encode_symbols
returns-clause-fail c = refl

pub returns-clause-unsupported : goal.returns-clause-unsupported
unfolding encode_symbols
returns-clause-unsupported c = refl
