use Rattle.mail_commands.proofs.Dues.{due_answer, same_due}
use Rattle.mail_commands.proofs.laws.one_due.Goals as goal

pub returns-clause-status : goal.returns-clause-status
returns-clause-status c = λ family words text one other output another d e. (same_due family words text one other output another d e).0

pub returns-clause-output : goal.returns-clause-output
returns-clause-output c = λ family words text one other output another d e. (same_due family words text one other output another d e).1

pub returns-clause-answer : goal.returns-clause-answer
returns-clause-answer c = due_answer
