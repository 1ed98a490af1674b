use Rattle.std.proofs.lemmas.Result.{err_from_is_err_and}
use Rattle.kem_mail.specs.Sealing.{seal_at}
use Rattle.kem_mail.proofs.SentMails.{key_refused, mail_done, messages_refused}
use Rattle.kem_mail.proofs.seal.send_mail.Goals as goal

pub returns-in_err-send_key : goal.returns-in_err-send_key
returns-in_err-send_key g c =
    let sink = g.W.Sink in
    let stream = g.R.Rng.stream in
    let p = err_from_is_err_and c.from_residual.result c.from_residual.ensures.1 in
    rw (p.1, p.2) (key_refused sink.got sink.faults sink.plan (seal_at g.A.AeadImpl.BaseAead.seal_of c.args.ctx.now) (g.K.EncappedKey.Serializable.bytes c.args.key.now) c.args.messages.now
    (Unit {0}) (Unit {0}) c.args.out.now c.send_key.new.out (stream c.args.rng.now) (stream c.send_key.new.rng) c.in_err-send_key.field-0.0 c.in_err-send_key.ensures)

pub returns-in_err-send_messages : goal.returns-in_err-send_messages
returns-in_err-send_messages g c =
    let sink = g.W.Sink in
    let stream = g.R.Rng.stream in
    let p = err_from_is_err_and c.from_residual-in_err-send_messages.result c.from_residual-in_err-send_messages.ensures.1 in
    rw (p.1, p.2) (messages_refused sink.got sink.faults sink.plan (seal_at g.A.AeadImpl.BaseAead.seal_of c.args.ctx.now) (g.K.EncappedKey.Serializable.bytes c.args.key.now) c.args.messages.now
    (Unit {0}) (Unit {0}) c.args.out.now c.send_key.new.out c.send_messages.new.out (stream c.args.rng.now) (stream c.send_key.new.rng) (stream c.send_messages.new.rng)
    c.in_err-send_messages.field-0.0 c.in_ok-send_key.ensures c.in_err-send_messages.ensures)

pub returns : goal.returns
returns g c =
    let sink = g.W.Sink in
    let stream = g.R.Rng.stream in
    mail_done sink.got sink.faults sink.plan (seal_at g.A.AeadImpl.BaseAead.seal_of c.args.ctx.now) (g.K.EncappedKey.Serializable.bytes c.args.key.now) c.args.messages.now
    c.args.out.now c.send_key.new.out c.send_messages.new.out c.send_done.new.out (stream c.args.rng.now) (stream c.send_key.new.rng) (stream c.send_messages.new.rng) (stream c.send_done.new.rng)
    c.send_done.result c.in_ok-send_key.ensures c.in_ok-send_messages.ensures c.send_done.ensures
