use Rattle.std.proofs.Common.{ℕ, ◌∷◌, [], map, Vec, Global, ap, ◌∙◌}
use Rattle.std.specs.Prelude.{Err}
use Rattle.kem_mail.specs.Sealing.{message_stanza, seal_at, sealed}
use Rattle.kem_mail.proofs.Sends.{ran_out_nothing}
use Rattle.kem_mail.proofs.SentMails.{message_unsealed, seals_none}
use Rattle.kem_mail.proofs.seal.send_message.Goals as goal

pub returns-in-Err-SealError-clause-sends : goal.returns-in-Err-SealError-clause-sends
returns-in-Err-SealError-clause-sends g c =
    let sink = g.W.Sink in
    let seal_of = g.A.AeadImpl.BaseAead.seal_of in
    let message = c.args.message.now in
    let none = seals_none seal_of c.args.ctx.now c.args.number message (λ (v : Vec ℕ Global). v.items) c.seal.result c.requires c.seal.ensures.value (c.in-Err-SealError.is ∙ ap Err c.in-Err-SealError.field-0-is) in
    message_unsealed sink.got sink.faults sink.plan (seal_at seal_of c.args.ctx.now) c.args.out.now c.args.number message (g.R.Rng.stream c.args.rng.now) none

pub returns-in-Err : goal.returns-in-Err
returns-in-Err g c =
    let sink = g.W.Sink in
    let meaning = seal_at g.A.AeadImpl.BaseAead.seal_of c.args.ctx.now in
    record {
      sends = ran_out_nothing sink.got sink.faults sink.plan c.args.out.now (map message_stanza (sealed meaning c.args.number (c.args.message.now ∷ []))) (g.R.Rng.stream c.args.rng.now);
      used = tt;
    }
