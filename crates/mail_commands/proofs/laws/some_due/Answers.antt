use Rattle.mail_commands.proofs.Dues.{some_due}
use Rattle.mail_commands.proofs.laws.some_due.Goals as goal

pub returns : goal.returns
returns c = some_due
