use Rattle.std.proofs.Common.{◌≡◌, ℕ, List, map, sym, ap, subst, ◌∙◌, Some, None}
use Rattle.std.specs.Prelude.{codes}
use Rattle.age_format.specs.Stanza.{stanza_of}
use Rattle.hpke.specs.Schedule.{suite_of}
use Rattle.kem_mail.specs.Mail.{Opener, Verdict, bodies, open_at, opener_of}
use Rattle.kem_mail.specs.private.Answers.{Judges}
use Rattle.kem_mail.proofs.Verdicts.{judged_one, opened_has_key}
use Rattle.kem_mail.proofs.open.judge.Goals as goal

pub returns-clause-judged : goal.returns-clause-judged
returns-clause-judged g c =
    let opener : Opener = opener_of (suite_of g.K.Kem.KEM_ID g.D.Kdf.kdf g.A.Aead.aead) c.args.info.now g.K.EncappedKey.Serializable.wire_size (g.K.Kem.decap_of (g.K.PrivateKey.Serializable.bytes c.args.sk.now) None) g.A.AeadImpl.BaseAead.open_of in
    let stanzas = map stanza_of c.args.stanzas.now in
    let encoded = c.in_ok-encoded.encoded.now in
    let context : opener.context_of encoded ≡ Some c.in-Ok.ctx = ap opener.context_of (sym c.in_ok-key.ensures.bytes) ∙ c.in-Ok.ensures.value in
    let same = judged_one opener (bodies (codes "kem") stanzas) (bodies (codes "msg") stanzas) encoded c.in-Ok.ctx c.in_ok-encoded.ensures c.in_ok-key.ensures.size context in
    subst (λ (v : Verdict). Judges (λ (m : List (List ℕ)). m) c.open_messages.result v) (sym same) c.open_messages.ensures

pub returns-clause-has_key : goal.returns-clause-has_key
returns-clause-has_key g c =
    opened_has_key (open_at g.A.AeadImpl.BaseAead.open_of c.in-Ok.ctx) 0 (bodies (codes "msg") (map stanza_of c.args.stanzas.now)) c.open_messages.result c.open_messages.ensures
