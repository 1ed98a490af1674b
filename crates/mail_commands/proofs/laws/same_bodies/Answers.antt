use Rattle.mail_commands.proofs.Dues.{same_bodies_due}
use Rattle.mail_commands.proofs.laws.same_bodies.Goals as goal

pub returns : goal.returns
returns c = λ family suite budget limit words others head text other status output spelled spells is same due.
    same_bodies_due family suite budget limit head text other is same words others status output spelled spells due
