use Rattle.std.proofs.Common.{◌∷◌, []}
use Rattle.kem_mail.specs.Sealing.{key_stanza}
use Rattle.kem_mail.proofs.Sends.{ran_out_nothing}
use Rattle.kem_mail.proofs.seal.send_key.Goals as goal

pub returns-in-Err : goal.returns-in-Err
returns-in-Err g c =
    let sink = g.W.Sink in
    ran_out_nothing sink.got sink.faults sink.plan c.args.out.now (key_stanza (g.K.EncappedKey.Serializable.bytes c.args.key.now) ∷ []) (g.R.Rng.stream c.args.rng.now)
