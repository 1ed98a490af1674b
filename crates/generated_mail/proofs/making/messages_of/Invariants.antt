use Rattle.std.proofs.Common.{◌≡◌, map}
use Rattle.generated_mail.specs.Made.{generated_messages}
use Rattle.generated_mail.proofs.making.messages_of.Given as goal

-- the messages so far
abbrev pub invariant-loop-i : goal.invariant-loop-i
invariant-loop-i = λ l. map (λ m. m.items) l.messages.items ≡ generated_messages l.i
