use Rattle.std.proofs.Common.{None, inr}
use Rattle.hpke.specs.Schedule.{suite_of}
use Rattle.kem_mail.specs.Sealing.{Sealer, sealer_of}
use Rattle.kem_mail.proofs.SentMails.{ran_out_drawn, seals_mail}
use Rattle.kem_mail.proofs.seal.seal_with.Goals as goal

pub returns-in-Ok-clause-sealed : goal.returns-in-Ok-clause-sealed
returns-in-Ok-clause-sealed g c = λ _.
    let sink = g.W.Sink in
    let stream = g.R.Rng.stream in
    let sealer : Sealer = sealer_of (suite_of g.K.Kem.KEM_ID g.D.Kdf.kdf g.A.Aead.aead) c.args.info.now (g.K.Kem.encap_of (g.K.PublicKey.Serializable.bytes c.args.pk.now) None) g.A.AeadImpl.BaseAead.seal_of in
    seals_mail sink.got sink.faults sink.plan sealer c.args.messages.now (stream c.args.rng.now) c.args.out.now c.send_mail.new.out (stream c.setup_sender.new.csprng) (stream c.send_mail.new.rng) c.send_mail.result
    (g.K.EncappedKey.Serializable.bytes c.in-Ok.made.0) c.in-Ok.made.1 c.in-Ok.ensures.value c.in-Ok.ensures.drawn c.send_mail.ensures

pub returns-in-Err : goal.returns-in-Err
returns-in-Err g c =
    let sink = g.W.Sink in
    let stream = g.R.Rng.stream in
    let sealer : Sealer = sealer_of (suite_of g.K.Kem.KEM_ID g.D.Kdf.kdf g.A.Aead.aead) c.args.info.now (g.K.Kem.encap_of (g.K.PublicKey.Serializable.bytes c.args.pk.now) None) g.A.AeadImpl.BaseAead.seal_of in
    record {
      sealed = λ _. inr (ran_out_drawn sink.got sink.faults sink.plan sealer c.args.messages.now (stream c.args.rng.now) c.args.out.now (stream c.setup_sender.new.csprng) c.in-Err.ensures.drawn);
      has_key = λ e. absurd cc;
    }
