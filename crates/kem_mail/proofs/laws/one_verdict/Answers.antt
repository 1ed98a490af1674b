use Rattle.kem_mail.proofs.Verdicts.{opens_verdict, same_verdict, some_verdict}
use Rattle.kem_mail.proofs.laws.one_verdict.Goals as goal

pub returns-clause-one : goal.returns-clause-one
returns-clause-one c = same_verdict

pub returns-clause-some : goal.returns-clause-some
returns-clause-some c = some_verdict

pub returns-clause-of_the_mail : goal.returns-clause-of_the_mail
returns-clause-of_the_mail c = opens_verdict
