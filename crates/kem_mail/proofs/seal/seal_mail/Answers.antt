use Rattle.std.proofs.Common.{ℕ, List, [], subst}
use Rattle.rand_core.specs.Stream.{fill_bytes}
use Rattle.kem_mail.specs.Sealing.{Sealer, lattice_sealer}
use Rattle.kem_mail.specs.Sent.{SealsMail}
use Rattle.age_format.proofs.Writing.{wrote_nothing}
use Rattle.kem_mail.proofs.SentMails.{exhausted_matrix, sender_text_of}
use Rattle.kem_mail.proofs.Wholes.{mail_stopped, no_stanzas}
use Rattle.kem_mail.proofs.seal.seal_mail.Goals as goal

pub returns-clause-has_key : goal.returns-clause-has_key
returns-clause-has_key g c = λ e.
    exhausted_matrix g.P.ParameterSet.set g.H.KemHash.family c.in_ok-pk.pk c.args.ek.now (fill_bytes 32 (g.R.Rng.stream c.args.rng.now)).0 c.in_ok-pk.ensures.copy (c.seal_with.ensures.has_key e)

pub returns-clause-sealed : goal.returns-clause-sealed
returns-clause-sealed g c =
    let sink = g.W.Sink in
    let stream = g.R.Rng.stream in
    subst (λ (k : List ℕ). SealsMail sink.got sink.faults sink.plan c.args.out.now c.seal_with.new.out
    (lattice_sealer g.P.ParameterSet.set g.H.KemHash.family g.D.Kdf.kdf g.A.Aead.aead g.A.AeadImpl.BaseAead.seal_of k c.args.info.now) c.args.messages.now (stream c.args.rng.now) (stream c.seal_with.new.rng) c.seal_with.result)
    c.in_ok-pk.ensures.copy
    (c.seal_with.ensures.sealed (λ e. c.in_ok-pk.ensures.has_key (exhausted_matrix g.P.ParameterSet.set g.H.KemHash.family c.in_ok-pk.pk c.args.ek.now (fill_bytes 32 (stream c.args.rng.now)).0 c.in_ok-pk.ensures.copy (c.seal_with.ensures.has_key e))))

pub returns-clause-sender_text : goal.returns-clause-sender_text
returns-clause-sender_text g c =
    let sink = g.W.Sink in
    let stream = g.R.Rng.stream in
    let sealer : Sealer = lattice_sealer g.P.ParameterSet.set g.H.KemHash.family g.D.Kdf.kdf g.A.Aead.aead g.A.AeadImpl.BaseAead.seal_of c.args.ek.now c.args.info.now in
    let sealed = subst (λ (k : List ℕ). SealsMail sink.got sink.faults sink.plan c.args.out.now c.seal_with.new.out
    (lattice_sealer g.P.ParameterSet.set g.H.KemHash.family g.D.Kdf.kdf g.A.Aead.aead g.A.AeadImpl.BaseAead.seal_of k c.args.info.now) c.args.messages.now (stream c.args.rng.now) (stream c.seal_with.new.rng) c.seal_with.result)
    c.in_ok-pk.ensures.copy
    (c.seal_with.ensures.sealed (λ e. c.in_ok-pk.ensures.has_key (exhausted_matrix g.P.ParameterSet.set g.H.KemHash.family c.in_ok-pk.pk c.args.ek.now (fill_bytes 32 (stream c.args.rng.now)).0 c.in_ok-pk.ensures.copy (c.seal_with.ensures.has_key e)))) in
    sender_text_of sink.got sink.faults sink.plan sealer c.args.messages.now (stream c.args.rng.now) (stream c.seal_with.new.rng) c.args.out.now c.seal_with.new.out c.seal_with.result sealed

pub returns-in_err-pk-clause-memory : goal.returns-in_err-pk-clause-memory
returns-in_err-pk-clause-memory g c =
    let sink = g.W.Sink in
    λ gives e. ([], no_stanzas, wrote_nothing sink.got sink.faults sink.plan c.args.out.now)

pub returns-clause-memory : goal.returns-clause-memory
returns-clause-memory g c =
    let sink = g.W.Sink in
    let stream = g.R.Rng.stream in
    let sealer : Sealer = lattice_sealer g.P.ParameterSet.set g.H.KemHash.family g.D.Kdf.kdf g.A.Aead.aead g.A.AeadImpl.BaseAead.seal_of c.args.ek.now c.args.info.now in
    let sealed = subst (λ (k : List ℕ). SealsMail sink.got sink.faults sink.plan c.args.out.now c.seal_with.new.out
    (lattice_sealer g.P.ParameterSet.set g.H.KemHash.family g.D.Kdf.kdf g.A.Aead.aead g.A.AeadImpl.BaseAead.seal_of k c.args.info.now) c.args.messages.now (stream c.args.rng.now) (stream c.seal_with.new.rng) c.seal_with.result)
    c.in_ok-pk.ensures.copy
    (c.seal_with.ensures.sealed (λ e. c.in_ok-pk.ensures.has_key (exhausted_matrix g.P.ParameterSet.set g.H.KemHash.family c.in_ok-pk.pk c.args.ek.now (fill_bytes 32 (stream c.args.rng.now)).0 c.in_ok-pk.ensures.copy (c.seal_with.ensures.has_key e)))) in
    mail_stopped sink.got sink.faults sink.plan c.args.out.now c.seal_with.new.out sealer c.args.messages.now (stream c.args.rng.now) (stream c.seal_with.new.rng) c.seal_with.result sealed
