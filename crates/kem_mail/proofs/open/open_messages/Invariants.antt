use Rattle.std.proofs.Common.{◌≡◌, ◌≤◌, length, drop, map}
use Rattle.std.specs.Prelude.{codes}
use Rattle.age_format.specs.Stanza.{stanza_of}
use Rattle.kem_mail.specs.Mail.{bodies, open_at}
use Rattle.kem_mail.proofs.Messages.{Progress, numbered}
use Rattle.kem_mail.proofs.open.open_messages.Given as goal

-- the messages so far, whose number is the context's next, and what is left to open
abbrev pub invariant-loop-stanza : goal.invariant-loop-stanza
invariant-loop-stanza g l = record {
  at : l.ctx ≡ numbered l.fn.ctx (length l.messages);
  few : length l.messages ≤ l.stanza-index;
  opened : Progress (open_at g.A.AeadImpl.BaseAead.open_of l.fn.ctx) (bodies (codes "msg") (map stanza_of l.stanzas)) l.messages (bodies (codes "msg") (map stanza_of (drop l.stanza-index l.stanzas)));
}
