use Rattle.generated_mail.proofs.Messages.{more_messages}
use Rattle.generated_mail.proofs.making.messages_of.Goals as goal

pub loop-i-preserved : goal.loop-i-preserved
loop-i-preserved c = more_messages c.loop-i.messages.items c.in_ok-message.message c.push.new.self.items c.loop-i.i c.in_ok-push.ensures.items c.loop-i.invariant c.in_ok-message.ensures
