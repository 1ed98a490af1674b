use Rattle.std.proofs.Common.{refl}
use Rattle.std.specs.Fmt.{digits}
use Rattle.hex.specs.Hex.{encode_with}
use Rattle.generated_mail.proofs.laws.worked_mails.Goals as goal

pub returns-clause-lines : goal.returns-clause-lines
unfolding digits encode_with
returns-clause-lines c = refl
