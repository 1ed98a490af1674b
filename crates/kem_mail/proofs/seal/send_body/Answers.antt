use Rattle.std.proofs.Common.{◌∷◌, [], None, sym, subst}
use Rattle.std.specs.Prelude.{Result}
use Rattle.age_format.specs.Stanza.{Stanza}
use Rattle.kem_mail.specs.declared.error.SealMailError.{SealMailError}
use Rattle.kem_mail.specs.private.Sends.{Sends}
use Rattle.kem_mail.proofs.Sends.{sends_alone}
use Rattle.kem_mail.proofs.seal.send_body.Goals as goal

pub returns : goal.returns
returns g c =
    let sink = g.W.Sink in
    let stream = g.R.Rng.stream in
    let s : Stanza = record { tag = c.args.tag.now; args = []; body = c.args.body.now } in
    subst (λ (r : Result (Unit {0}) SealMailError). Sends sink.got sink.faults sink.plan c.args.out.now c.send_to.new.sink (s ∷ []) (stream c.args.rng.now) (stream c.send_to.new.rng) None r) (sym c.sent.ensures)
    (sends_alone sink.got sink.faults sink.plan c.args.out.now c.send_to.new.sink s (stream c.args.rng.now) (stream c.send_to.new.rng) c.send_to.result
    c.send_to.ensures.sent c.send_to.ensures.stanzas c.send_to.ensures.write_fault c.send_to.ensures.memory c.send_to.ensures.no_other)
