use Rattle.std.proofs.Common.{ℕ, List, map, ap, None, Err, Vec, Global}
use Rattle.std.proofs.lemmas.Result.{err_from_is_err_and}
use Rattle.age_format.specs.Outside.{Rose}
use Rattle.age_format.specs.Stanza.{stanza_of}
use Rattle.age_format.specs.Reading.{Before_done}
use Rattle.age_format.specs.declared.format.Stanza.{Stanza as HeldStanza}
use Rattle.hpke.specs.Schedule.{suite_of}
use Rattle.kem_mail.specs.Mail.{Opener, opener_of, judged}
use Rattle.kem_mail.specs.private.Answers.{Judges}
use Rattle.kem_mail.proofs.Verdicts.{refused_opens, refused_complete, done_opens, done_complete, done_no_fault, done_not_ended, done_taken}
use Rattle.kem_mail.proofs.open.open_with.Goals as goal

pub returns-in_err-stanzas-clause-verdict : goal.returns-in_err-stanzas-clause-verdict
returns-in_err-stanzas-clause-verdict g c =
    let opener : Opener = opener_of (suite_of g.K.Kem.KEM_ID g.D.Kdf.kdf g.A.Aead.aead) c.args.info.now g.K.EncappedKey.Serializable.wire_size (g.K.Kem.decap_of (g.K.PrivateKey.Serializable.bytes c.args.sk.now) None) g.A.AeadImpl.BaseAead.open_of in
    let p = err_from_is_err_and c.from_residual.result c.from_residual.ensures.1 in
    rw (p.1, p.2) (refused_opens (λ (v : Vec HeldStanza Global). map stanza_of v.items) opener (g.S.Source.left c.args.src.now) c.args.budget c.in_err-stanzas.field-0.0 c.in_err-stanzas.ensures.read)

pub returns-in_err-stanzas-clause-complete : goal.returns-in_err-stanzas-clause-complete
returns-in_err-stanzas-clause-complete g c =
    let opener : Opener = opener_of (suite_of g.K.Kem.KEM_ID g.D.Kdf.kdf g.A.Aead.aead) c.args.info.now g.K.EncappedKey.Serializable.wire_size (g.K.Kem.decap_of (g.K.PrivateKey.Serializable.bytes c.args.sk.now) None) g.A.AeadImpl.BaseAead.open_of in
    let faults = g.S.Source.faults in
    let p = err_from_is_err_and c.from_residual.result c.from_residual.ensures.1 in
    rw (p.1, p.2) (refused_complete (λ (v : Vec HeldStanza Global). map stanza_of v.items) opener (Rose (faults c.args.src.now) (faults c.stanzas_before_done.new.src)) (g.S.Source.left c.args.src.now) c.args.budget c.in_err-stanzas.field-0.0 c.in_err-stanzas.ensures.read
    (λ e. c.in_err-stanzas.ensures.read_fault (ap Err e)))

pub returns-clause-verdict : goal.returns-clause-verdict
returns-clause-verdict g c =
    let opener : Opener = opener_of (suite_of g.K.Kem.KEM_ID g.D.Kdf.kdf g.A.Aead.aead) c.args.info.now g.K.EncappedKey.Serializable.wire_size (g.K.Kem.decap_of (g.K.PrivateKey.Serializable.bytes c.args.sk.now) None) g.A.AeadImpl.BaseAead.open_of in
    let stanzas = map stanza_of c.in_ok-stanzas.stanzas.items in
    let judges : Judges (λ (m : List (List ℕ)). m) c.judge.result (judged opener (Before_done stanzas)) = rw c.deref.ensures.value at c.judge.ensures.judged in
    done_opens opener stanzas c.judge.result judges (g.S.Source.left c.args.src.now) c.args.budget c.in_ok-stanzas.ensures.read

pub returns-clause-complete : goal.returns-clause-complete
returns-clause-complete g c =
    let opener : Opener = opener_of (suite_of g.K.Kem.KEM_ID g.D.Kdf.kdf g.A.Aead.aead) c.args.info.now g.K.EncappedKey.Serializable.wire_size (g.K.Kem.decap_of (g.K.PrivateKey.Serializable.bytes c.args.sk.now) None) g.A.AeadImpl.BaseAead.open_of in
    let stanzas = map stanza_of c.in_ok-stanzas.stanzas.items in
    let judges : Judges (λ (m : List (List ℕ)). m) c.judge.result (judged opener (Before_done stanzas)) = rw c.deref.ensures.value at c.judge.ensures.judged in
    let faults = g.S.Source.faults in
    done_complete opener stanzas c.judge.result judges (Rose (faults c.args.src.now) (faults c.stanzas_before_done.new.src)) (g.S.Source.left c.args.src.now) c.args.budget c.in_ok-stanzas.ensures.read

pub returns-clause-read_fault : goal.returns-clause-read_fault
returns-clause-read_fault g c = λ e.
    let opener : Opener = opener_of (suite_of g.K.Kem.KEM_ID g.D.Kdf.kdf g.A.Aead.aead) c.args.info.now g.K.EncappedKey.Serializable.wire_size (g.K.Kem.decap_of (g.K.PrivateKey.Serializable.bytes c.args.sk.now) None) g.A.AeadImpl.BaseAead.open_of in
    let stanzas = map stanza_of c.in_ok-stanzas.stanzas.items in
    let judges : Judges (λ (m : List (List ℕ)). m) c.judge.result (judged opener (Before_done stanzas)) = rw c.deref.ensures.value at c.judge.ensures.judged in
    absurd (done_no_fault opener stanzas c.judge.result judges e)

pub returns-clause-taken : goal.returns-clause-taken
returns-clause-taken g c =
    let opener : Opener = opener_of (suite_of g.K.Kem.KEM_ID g.D.Kdf.kdf g.A.Aead.aead) c.args.info.now g.K.EncappedKey.Serializable.wire_size (g.K.Kem.decap_of (g.K.PrivateKey.Serializable.bytes c.args.sk.now) None) g.A.AeadImpl.BaseAead.open_of in
    let stanzas = map stanza_of c.in_ok-stanzas.stanzas.items in
    let judges : Judges (λ (m : List (List ℕ)). m) c.judge.result (judged opener (Before_done stanzas)) = rw c.deref.ensures.value at c.judge.ensures.judged in
    done_taken opener stanzas c.judge.result judges c.judge.ensures.has_key (g.S.Source.left c.args.src.now) (g.S.Source.left c.stanzas_before_done.new.src) c.args.budget c.in_ok-stanzas.stanzas c.in_ok-stanzas.ensures.taken

pub returns-clause-ended : goal.returns-clause-ended
returns-clause-ended g c = λ e.
    let opener : Opener = opener_of (suite_of g.K.Kem.KEM_ID g.D.Kdf.kdf g.A.Aead.aead) c.args.info.now g.K.EncappedKey.Serializable.wire_size (g.K.Kem.decap_of (g.K.PrivateKey.Serializable.bytes c.args.sk.now) None) g.A.AeadImpl.BaseAead.open_of in
    let stanzas = map stanza_of c.in_ok-stanzas.stanzas.items in
    let judges : Judges (λ (m : List (List ℕ)). m) c.judge.result (judged opener (Before_done stanzas)) = rw c.deref.ensures.value at c.judge.ensures.judged in
    absurd (done_not_ended opener stanzas c.judge.result judges e)
