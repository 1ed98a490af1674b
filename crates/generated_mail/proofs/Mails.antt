-- What is told of a mail that is made of a number of messages.
use Rattle.std.proofs.Common.{◌≡◌, ℕ, List, [], Option, Some, None, Err, refl, sym, ap, subst, ◌∙◌, ◌≢◌, ◌∷◌, ◌⊎◌, inl, inr}
use Rattle.std.specs.Prelude.{Ok, length, sum_by}
use Rattle.gcm_core.specs.Gcm.{open_of}
use Rattle.kem_hash.specs.Family.{Family}
use Rattle.ml_kem.specs.Keys.{Key, key_of}
use Rattle.ml_kem.specs.Parameters.{ml_kem_768}
use Rattle.kem_mail.specs.Mail.{IsVerdict, Verdict}
use Rattle.kem_mail.specs.declared.error.MailError.{MailError}
use Rattle.kem_mail.specs.declared.error.MailError.TheVariants.{NoMemory, ReadFault, XofExhausted}
use Rattle.kem_mail.proofs.Keyed.{by_key_verdict, same_by_key, some_by_key}
use Rattle.generated_mail.specs.Made.{hkdf_sha256, aes_256_gcm, generated_key_seed, generated_text}
use Rattle.generated_mail.specs.Told.{Generates, GeneratedOpens, generated_budget, summary_lines, summed}

module _ (family : Family) (count : ℕ) where
  abbrev seed : List ℕ
  seed = generated_key_seed count

  abbrev made : Option Key
  made = key_of ml_kem_768 family (generated_key_seed count)

  -- one thing is told
  pub same_told : (v w : Verdict) → Generates family count v → Generates family count w → v ≡ w
  same_told v w one other = by made refl
    where
      by : (key : Option Key) → key_of ml_kem_768 family (generated_key_seed count) ≡ key → v ≡ w
      by None e = one.without_key e ∙ sym (other.without_key e)
      by (Some key) e =
          let text = generated_text family count key.ek in
          let a = one.with_key key e in
          let b = other.with_key key e in
          let same = same_by_key ml_kem_768 family hkdf_sha256 aes_256_gcm open_of seed [] text generated_budget a.0 b.0 a.1 b.1 in
          a.2 ∙ (ap (summed family text) same ∙ sym b.2)

  summed_verdict : (text : List ℕ) (v : Verdict) → IsVerdict v → IsVerdict (summed family text v)
  summed_verdict text (Ok messages) is = ((λ e. cc e), (λ e. cc e))
  summed_verdict text (Err error) is = is

  -- it is a verdict
  pub told_verdict : (v : Verdict) → Generates family count v → IsVerdict v
  told_verdict v told = by made refl
    where
      by : (key : Option Key) → key_of ml_kem_768 family (generated_key_seed count) ≡ key → IsVerdict v
      by None e = subst IsVerdict (sym (told.without_key e)) ((λ e. cc e), (λ e. cc e))
      by (Some key) e =
          let text = generated_text family count key.ek in
          let a = told.with_key key e in
          let verdict = by_key_verdict ml_kem_768 family hkdf_sha256 aes_256_gcm open_of seed [] text generated_budget a.0 a.1 in
          subst IsVerdict (sym a.2) (summed_verdict text a.0 verdict)

  -- of a seed without a key
  pub told_no_key : key_of ml_kem_768 family (generated_key_seed count) ≡ None → Generates family count (Err XofExhausted)
  told_no_key none = record { without_key = λ _. refl; with_key = λ key is. absurd (let g = sym none ∙ is in cc g) }

  -- of a text that opened
  pub told_opened : (key : Key) (v : Verdict) → key_of ml_kem_768 family (generated_key_seed count) ≡ Some key → GeneratedOpens family count (generated_text family count key.ek) v
      → Generates family count (summed family (generated_text family count key.ek) v)
  told_opened key v is opens = record {
    without_key = λ none. absurd (let g = sym none ∙ is in cc g);
    with_key = λ other also. (let same : key ≡ other = (let g : Some key ≡ Some other = sym is ∙ also in cc g) in
        subst (λ (k : Key). (w : Verdict) × GeneratedOpens family count (generated_text family count k.ek) w
        × (summed family (generated_text family count key.ek) v ≡ summed family (generated_text family count k.ek) w)) same (v, opens, refl));
  }

  -- of a text that opened to these messages, summed up by these numbers
  pub told_summary : (key : Key) (opened : List (List ℕ)) (text digest : List ℕ) (n total mail : ℕ) → key_of ml_kem_768 family (generated_key_seed count) ≡ Some key → text ≡ generated_text family count key.ek
      → GeneratedOpens family count text (Ok opened) → n ≡ length opened → total ≡ sum_by length opened → mail ≡ length text → digest ≡ family.h_of text → Generates family count (Ok (summary_lines n total mail digest ∷ []))
  told_summary key opened text digest n total mail is made opens a b c d =
      let of_text : Generates family count (summed family text (Ok opened)) =
      subst (λ (t : List ℕ). GeneratedOpens family count t (Ok opened) → Generates family count (summed family t (Ok opened))) (sym made) (told_opened key (Ok opened) is) opens in
      rw (a, b, c, d) of_text

  -- of a text that didn't open
  pub told_refused : (key : Key) (text : List ℕ) (e : MailError) → key_of ml_kem_768 family (generated_key_seed count) ≡ Some key → text ≡ generated_text family count key.ek
      → (IsVerdict (Err e) → GeneratedOpens family count text (Err e)) → e ≢ ReadFault → (e ≡ NoMemory) ⊎ Generates family count (Err e)
  told_refused key text NoMemory is made opens calm = inl refl
  told_refused key text ReadFault is made opens calm = absurd (calm refl)
  told_refused key text e is made opens calm = inr (told_opened key (Err e) is (subst (λ (t : List ℕ). GeneratedOpens family count t (Err e)) made (opens ((λ x. cc x), (λ x. cc x)))))

  -- something is told
  pub some_told : ((v : Verdict) → Generates family count v → ⊥) → ⊥
  some_told none = by made refl
    where
      by : (key : Option Key) → key_of ml_kem_768 family (generated_key_seed count) ≡ key → ⊥
      by None e = none (Err XofExhausted) (told_no_key e)
      by (Some key) e =
          let text = generated_text family count key.ek in
          some_by_key ml_kem_768 family hkdf_sha256 aes_256_gcm open_of seed [] text generated_budget (λ v opens. none (summed family text v) (told_opened key v e opens))
