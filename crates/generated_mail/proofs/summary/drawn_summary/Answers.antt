use Rattle.std.proofs.Common.{◌≡◌, ◌∙◌, ◌≢◌, ℕ, List, [], Some, None, Err, Ok, ap, sym, subst, inl, inr, length, arith}
use Rattle.std.proofs.lemmas.Result.{err_from_is_err_and}
use Rattle.rand_core.specs.Stream.{Stream, fill_bytes}
use Rattle.gcm_core.specs.Gcm.{open_of}
use Rattle.ml_kem.specs.Keys.{key_of}
use Rattle.ml_kem.specs.Parameters.{ml_kem_768}
use Rattle.kem_mail.specs.Mail.{IsVerdict, OpensByKey}
use Rattle.kem_mail.specs.Sent.{mail_text}
use Rattle.kem_mail.specs.declared.error.MailError.{MailError}
use Rattle.kem_mail.specs.declared.error.MailError.TheVariants.{ReadFault}
use Rattle.generated_mail.specs.Made.{aes_256_gcm, generated_key_seed, generated_messages, generated_sealer, generated_seed, generated_text, hkdf_sha256, source_stream}
use Rattle.generated_mail.specs.Told.{GeneratedOpens, Generates, generated_budget}
use Rattle.generated_mail.proofs.Mails.{told_no_key, told_refused, told_summary}
use Rattle.generated_mail.proofs.summary.drawn_summary.Goals as goal

pub returns-in_err-text-clause-refused : goal.returns-in_err-text-clause-refused
returns-in_err-text-clause-refused g c =
    let family = g.H.KemHash.family in
    let stream = g.R.Rng.stream in
    let count = c.args.count in
    let seed : List ℕ = c.fill_bytes.new.dst in
    let drawn = c.fill_bytes.ensures ∙ ap (λ (s : Stream). fill_bytes 64 s) c.requires.drawn in
    let seed_is : seed ≡ generated_key_seed count = ap (λ (p : List ℕ × Stream). p.0) drawn in
    let p = err_from_is_err_and c.from_residual.result c.from_residual.ensures.1 in
    rw (p.1, p.2) (elim c.in_err-text.ensures.refused [
      | inl memory ↦ inl memory
      | inr other ↦ inr (subst (λ (e : MailError). Generates family count (Err e)) (sym other.0) (told_no_key family count (subst (λ (s : List ℕ). key_of ml_kem_768 family s ≡ None) seed_is other.1)))
    ])

pub returns-in_err-opened-clause-refused : goal.returns-in_err-opened-clause-refused
unfolding generated_text
returns-in_err-opened-clause-refused g c =
    let family = g.H.KemHash.family in
    let stream = g.R.Rng.stream in
    let count = c.args.count in
    let seed : List ℕ = c.fill_bytes.new.dst in
    let drawn = c.fill_bytes.ensures ∙ ap (λ (s : Stream). fill_bytes 64 s) c.requires.drawn in
    let seed_is : seed ≡ generated_key_seed count = ap (λ (p : List ℕ × Stream). p.0) drawn in
    let after_is : stream c.fill_bytes.new.self ≡ (fill_bytes 64 (source_stream (generated_seed count))).1 = ap (λ (p : List ℕ × Stream). p.1) drawn in
    let text : List ℕ = c.in_ok-text.text.items in
    let key = c.in_ok-text.ensures.text in
    let key_is : key_of ml_kem_768 family (generated_key_seed count) ≡ Some key.0 = subst (λ (s : List ℕ). key_of ml_kem_768 family s ≡ Some key.0) seed_is key.1 in
    let text_is : text ≡ generated_text family count key.0.ek = key.2 ∙ ap (λ (s : Stream). mail_text (generated_sealer family key.0.ek) (generated_messages count) s) after_is in
    let e : MailError = c.in_err-opened.field-0.0 in
    let opens : IsVerdict (Err e) → GeneratedOpens family count text (Err e) = λ is. subst (λ (t : List ℕ). GeneratedOpens family count t (Err e)) c.new-src.ensures
    (subst (λ (s : List ℕ). OpensByKey ml_kem_768 family hkdf_sha256 aes_256_gcm open_of s [] c.new-src.result generated_budget (Err e)) seed_is (c.in_err-opened.ensures.verdict is)) in
    let calm : e ≢ ReadFault = λ is. let rose = (c.in_err-opened.ensures.read_fault (ap Err is)).0 in omega (arith, rose) in
    let p = err_from_is_err_and c.from_residual-in_err-opened.result c.from_residual-in_err-opened.ensures.1 in
    rw (p.1, p.2) (told_refused family count key.0 text e key_is text_is opens calm)

pub returns-clause-told : goal.returns-clause-told
unfolding generated_text
returns-clause-told g c =
    let family = g.H.KemHash.family in
    let stream = g.R.Rng.stream in
    let count = c.args.count in
    let seed : List ℕ = c.fill_bytes.new.dst in
    let drawn = c.fill_bytes.ensures ∙ ap (λ (s : Stream). fill_bytes 64 s) c.requires.drawn in
    let seed_is : seed ≡ generated_key_seed count = ap (λ (p : List ℕ × Stream). p.0) drawn in
    let after_is : stream c.fill_bytes.new.self ≡ (fill_bytes 64 (source_stream (generated_seed count))).1 = ap (λ (p : List ℕ × Stream). p.1) drawn in
    let text : List ℕ = c.in_ok-text.text.items in
    let key = c.in_ok-text.ensures.text in
    let key_is : key_of ml_kem_768 family (generated_key_seed count) ≡ Some key.0 = subst (λ (s : List ℕ). key_of ml_kem_768 family s ≡ Some key.0) seed_is key.1 in
    let text_is : text ≡ generated_text family count key.0.ek = key.2 ∙ ap (λ (s : Stream). mail_text (generated_sealer family key.0.ek) (generated_messages count) s) after_is in
    let messages : List (List ℕ) = c.in_ok-opened.opened in
    let opens : GeneratedOpens family count text (Ok messages) = subst (λ (t : List ℕ). GeneratedOpens family count t (Ok messages)) c.new-src.ensures
    (subst (λ (s : List ℕ). OpensByKey ml_kem_768 family hkdf_sha256 aes_256_gcm open_of s [] c.new-src.result generated_budget (Ok messages)) seed_is (c.in_ok-opened.ensures.verdict ((λ x. cc x), (λ x. cc x)))) in
    let long : c.len-mail.result ≡ length text = (let said = c.len-mail.ensures in omega (arith, said, c.in_ok-text.text.ok.0)) in
    told_summary family count key.0 messages text c.h-digest.result c.len.result c.total_len.result c.len-mail.result key_is text_is opens c.len.ensures c.total_len.ensures long (c.h-digest.ensures ∙ ap family.h_of c.deref.ensures.value)
