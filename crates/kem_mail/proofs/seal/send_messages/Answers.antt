use Rattle.std.proofs.Common.{◌≡◌, ℕ, ◌+◌, ◌∷◌, [], List, Option, None, map, take, drop, refl, sym, subst, arith}
use Rattle.std.specs.Prelude.{Err}
use Rattle.std.proofs.lemmas.Result.{err_from_is_err_and}
use Rattle.hpke.specs.Schedule.{Context}
use Rattle.kem_mail.specs.Sealing.{message_stanza, seal_at, sealed, unsealed}
use Rattle.kem_mail.specs.Sent.{SentAll}
use Rattle.kem_mail.specs.private.Sends.{Sends, SentBefore}
use Rattle.kem_mail.proofs.Messages.{numbered_same, used-numbered}
use Rattle.kem_mail.proofs.Sends.{sent_nothing}
use Rattle.kem_mail.proofs.SentMails.{more_refused, more_sealed, more_sent, placed_got, some_got}
use Rattle.kem_mail.proofs.seal.send_messages.Goals as goal

pub loop-i-init : goal.loop-i-init
loop-i-init g c =
    let sink = g.W.Sink in
    let none : Option ℕ = None in
    record {
      at = numbered_same c.args.ctx.now 0 c.requires;
      all_sealed = refl {a = none};
      sent = sent_nothing sink.got sink.faults sink.plan c.args.out.now (g.R.Rng.stream c.args.rng.now);
    }

pub unwrap-message-requires : goal.unwrap-message-requires
unwrap-message-requires g c = some_got c.get.result c.args.messages.now c.loop-i.i c.get.ensures (rw c.len-i-end.ensures at c.loop-i-test.true)

pub returns-in_err-send_message : goal.returns-in_err-send_message
returns-in_err-send_message g c =
    let sink = g.W.Sink in
    let stream = g.R.Rng.stream in
    let seal_of = g.A.AeadImpl.BaseAead.seal_of in
    let meaning = seal_at seal_of c.args.ctx.now in
    let messages = c.args.messages.now in
    let i = c.loop-i.i in
    let message = c.unwrap-message.result.now in
    let inv = c.loop-i.invariant in
    let place = placed_got c.get.result c.unwrap-message.result messages i c.get.ensures c.unwrap-message.ensures in
    let e = c.in_err-send_message.field-0.0 in
    let sends = subst (λ (k : Context). Sends sink.got sink.faults sink.plan c.loop-i.out c.send_message.new.out (map message_stanza (sealed (seal_at seal_of k) i (message ∷ [])))
    (stream c.loop-i.rng) (stream c.send_message.new.rng) {X = Unit {0}} (unsealed (seal_at seal_of k) i (message ∷ [])) (Err e)) inv.at c.in_err-send_message.ensures.sends in
    let refused = more_refused sink.got sink.faults sink.plan meaning c.args.out.now c.loop-i.out c.send_message.new.out (stream c.args.rng.now) (stream c.loop-i.rng) (stream c.send_message.new.rng)
    (take i messages) i message place.long inv.all_sealed inv.sent (Unit {0}) (Unit {0}) (drop (i + 1) messages) e sends in
    let p = err_from_is_err_and c.from_residual.result c.from_residual.ensures.1 in
    rw (p.1, p.2) (subst (λ (t : List (List ℕ)). Sends sink.got sink.faults sink.plan c.args.out.now c.send_message.new.out (map message_stanza (sealed meaning 0 t))
    (stream c.args.rng.now) (stream c.send_message.new.rng) {X = Unit {0}} (unsealed meaning 0 t) (Err e)) (sym place.whole) refused)

pub loop-i-preserved : goal.loop-i-preserved
loop-i-preserved g c =
    let sink = g.W.Sink in
    let stream = g.R.Rng.stream in
    let seal_of = g.A.AeadImpl.BaseAead.seal_of in
    let meaning = seal_at seal_of c.args.ctx.now in
    let messages = c.args.messages.now in
    let i = c.loop-i.i in
    let message = c.unwrap-message.result.now in
    let inv = c.loop-i.invariant in
    let place = placed_got c.get.result c.unwrap-message.result messages i c.get.ensures c.unwrap-message.ensures in
    let sends = subst (λ (k : Context). SentBefore sink.got sink.faults sink.plan c.loop-i.out c.send_message.new.out (map message_stanza (sealed (seal_at seal_of k) i (message ∷ [])))
    (stream c.loop-i.rng) (stream c.send_message.new.rng) (unsealed (seal_at seal_of k) i (message ∷ [])) None) inv.at c.in_ok-send_message.ensures.sends in
    let sent = more_sent sink.got sink.faults sink.plan meaning c.args.out.now c.loop-i.out c.send_message.new.out (stream c.args.rng.now) (stream c.loop-i.rng) (stream c.send_message.new.rng)
    (take i messages) i message place.long inv.all_sealed inv.sent sends in
    let all = more_sealed sink.got sink.faults sink.plan meaning c.args.out.now c.loop-i.out c.send_message.new.out (stream c.args.rng.now) (stream c.loop-i.rng) (stream c.send_message.new.rng)
    (take i messages) i message place.long inv.all_sealed inv.sent sends in
    record {
      at = used-numbered c.send_message.new.ctx c.loop-i.ctx c.args.ctx.now i c.in_ok-send_message.ensures.used inv.at (omega arith);
      all_sealed = subst (λ (t : List (List ℕ)). unsealed meaning 0 t ≡ None) (sym place.more) all;
      sent = subst (λ (t : List (List ℕ)). SentAll sink.got sink.faults sink.plan c.args.out.now c.send_message.new.out (map message_stanza (sealed meaning 0 t)) (stream c.args.rng.now) (stream c.send_message.new.rng)) (sym place.more) sent;
    }
