use Rattle.generated_mail.proofs.Mails.{same_told, some_told, told_verdict}
use Rattle.generated_mail.proofs.laws.one_told.Goals as goal

pub returns-clause-same : goal.returns-clause-same
returns-clause-same c = same_told

pub returns-clause-verdict : goal.returns-clause-verdict
returns-clause-verdict c = told_verdict

pub returns-clause-some : goal.returns-clause-some
returns-clause-some c = some_told
