use Rattle.std.proofs.Common.{◌∷◌, [], None, sym, subst}
use Rattle.std.specs.Prelude.{Result}
use Rattle.age_format.specs.Stanza.{Stanza}
use Rattle.age_send.specs.Sending.{done}
use Rattle.kem_mail.specs.declared.error.SealMailError.{SealMailError}
use Rattle.kem_mail.specs.private.Sends.{Sends}
use Rattle.kem_mail.proofs.Sends.{sends_alone}
use Rattle.kem_mail.proofs.seal.send_done.Goals as goal

pub returns : goal.returns
returns g c =
    let sink = g.W.Sink in
    let stream = g.R.Rng.stream in
    let s : Stanza = done in
    subst (λ (r : Result (Unit {0}) SealMailError). Sends sink.got sink.faults sink.plan c.args.out.now c.finish_to.new.sink (s ∷ []) (stream c.args.rng.now) (stream c.finish_to.new.rng) None r) (sym c.sent.ensures)
    (sends_alone sink.got sink.faults sink.plan c.args.out.now c.finish_to.new.sink s (stream c.args.rng.now) (stream c.finish_to.new.rng) c.finish_to.result
    c.finish_to.ensures.sent c.finish_to.ensures.stanzas c.finish_to.ensures.write_fault c.finish_to.ensures.memory c.finish_to.ensures.no_other)
