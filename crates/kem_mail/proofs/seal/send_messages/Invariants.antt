use Rattle.std.proofs.Common.{◌≡◌, None, take, map}
use Rattle.kem_mail.specs.Sealing.{message_stanza, seal_at, sealed, unsealed}
use Rattle.kem_mail.specs.Sent.{SentAll}
use Rattle.kem_mail.proofs.Messages.{numbered}
use Rattle.kem_mail.proofs.seal.send_messages.Given as goal

-- the messages so far were sealed and sent, and the next number is theirs
abbrev pub invariant-loop-i : goal.invariant-loop-i
invariant-loop-i g l =
    let sink = g.W.Sink in
    let stream = g.R.Rng.stream in
    let meaning = seal_at g.A.AeadImpl.BaseAead.seal_of l.fn.ctx in
    record {
      at : l.ctx ≡ numbered l.fn.ctx l.i;
      all_sealed : unsealed meaning 0 (take l.i l.messages) ≡ None;
      sent : SentAll sink.got sink.faults sink.plan l.fn.out l.out (map message_stanza (sealed meaning 0 (take l.i l.messages))) (stream l.fn.rng) (stream l.rng);
    }
