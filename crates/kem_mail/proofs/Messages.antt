-- Sealed messages that are opened in order, one more at a time.
use Rattle.std.proofs.Common.{◌≡◌, ℕ, ◌+◌, ◌<◌, ◌≤◌, ◌^◌, List, [], ◌∷◌, ◌++◌, length, Option, Some, None, refl, sym, ap, subst, ◌∙◌, arith, inl, inr, ◌↔◌, append_assoc}
use Rattle.std.specs.Prelude.{Result, Ok, Err}
use Rattle.std.proofs.lemmas.Bool.{cases_lt}
use Rattle.std.proofs.lemmas.List.{append-nil, length_push}
use Rattle.hpke.specs.Answers.{Answers}
use Rattle.hpke.specs.Messages.{NumberedAnswers, used}
use Rattle.hpke.specs.Nonce.{nonce_of, number_after}
use Rattle.hpke.specs.Schedule.{Context}
use Rattle.hpke.specs.declared.error.HpkeError.{HpkeError}
use Rattle.hpke.specs.declared.error.HpkeError.TheVariants.{OpenError as HpkeOpenError}
use Rattle.kem_mail.specs.declared.error.MailError.TheVariants.{OpenError}
use Rattle.kem_mail.specs.Mail.{Verdict, OpenMeaning, with_first, open_at, opened}

-- messages before those of a verdict
abbrev pub with_front : List (List ℕ) → Verdict → Verdict
with_front front (Ok texts) = Ok (front ++ texts)
with_front front (Err error) = Err error

with_front-first : (front : List (List ℕ)) (text : List ℕ) (v : Verdict) → with_front front (with_first text v) ≡ with_front (front ++ text ∷ []) v
with_front-first front text (Ok texts) = ap Ok (sym (append_assoc front (text ∷ []) texts))
with_front-first front text (Err error) = refl

with_front-nil : (v : Verdict) → with_front [] v ≡ v
with_front-nil (Ok texts) = refl
with_front-nil (Err error) = refl

module _ (meaning : ℕ → List ℕ → Option (List ℕ)) where
  -- these messages were opened, and these sealed ones are left
  abbrev pub Progress : List (List ℕ) → List (List ℕ) → List (List ℕ) → Type 0
  Progress all messages left = opened meaning 0 all ≡ with_front messages (opened meaning (length messages) left)

  pub progress-start : (all : List (List ℕ)) → Progress all [] all
  progress-start all = sym (with_front-nil (opened meaning 0 all))

  opened-first : (number : ℕ) (first text : List ℕ) (others : List (List ℕ)) → meaning number first ≡ Some text
      → opened meaning number (first ∷ others) ≡ with_first text (opened meaning (number + 1) others)
  opened-first number first text others e = rw (e, opened) refl

  opened-none : (number : ℕ) (first : List ℕ) (others : List (List ℕ)) → meaning number first ≡ None → opened meaning number (first ∷ others) ≡ Err (OpenError number)
  opened-none number first others e = rw (e, opened) refl

  pub progress-more : (all messages : List (List ℕ)) (first text : List ℕ) (others : List (List ℕ)) → Progress all messages (first ∷ others) → meaning (length messages) first ≡ Some text
      → Progress all (messages ++ text ∷ []) others
  progress-more all messages first text others p e =
      p ∙ (ap (with_front messages) (opened-first (length messages) first text others e)
      ∙ (with_front-first messages text (opened meaning (length messages + 1) others)
      ∙ ap (λ (n : ℕ). with_front (messages ++ text ∷ []) (opened meaning n others)) (sym (length_push messages text))))

  pub progress-refused : (all messages : List (List ℕ)) (first : List ℕ) (others : List (List ℕ)) → Progress all messages (first ∷ others) → meaning (length messages) first ≡ None
      → opened meaning 0 all ≡ Err (OpenError (length messages))
  progress-refused all messages first others p e = p ∙ ap (with_front messages) (opened-none (length messages) first others e)

  pub progress-end : (all messages : List (List ℕ)) → Progress all messages [] → opened meaning 0 all ≡ Ok messages
  progress-end all messages p = p ∙ ap Ok (append-nil messages)

-- ---- a context at a number

-- the context with this number as its next
abbrev pub numbered : Context → ℕ → Context
numbered context number = record context { next = Some number }

number_after-below : (number : ℕ) → number + 1 < 2 ^ 64 → number_after number ≡ Some (number + 1)
number_after-below number lt = grind (arith, lt)

pub used-numbered : (now context start : Context) (number : ℕ) → now ≡ used context → context ≡ numbered start number → number + 1 < 2 ^ 64 → now ≡ numbered start (number + 1)
used-numbered now context start number e is lt =
    e ∙ (ap used is ∙ ap (λ (next : Option ℕ). record start { next = next }) (number_after-below number lt))

pub numbered_same : (context : Context) (number : ℕ) → context.next ≡ Some number → context ≡ numbered context number
numbered_same context number e = ap (λ (next : Option ℕ). record context { next = next }) e

module _ (open_of : OpenMeaning) (tag : ℕ) (start : Context) (number : ℕ) (sealed : List ℕ) {X : Type 0} (view : X → List ℕ) where
  -- what is sealed is no shorter than a tag
  short_none : ((key nonce aad text sealed : List ℕ) → open_of key nonce aad sealed ≡ Some text → tag ≤ length sealed) → length sealed < tag
      → (o : Option (List ℕ)) → open_at open_of start number sealed ≡ o → o ≡ None
  short_none law lt None e = refl
  short_none law lt (Some text) e = absurd (let le = law start.key (nonce_of start.base_nonce number) [] text sealed e in omega arith)

  said_ok : (x : X) (result : Result X HpkeError) (o : Option (List ℕ)) → result ≡ Ok x → Answers view HpkeOpenError result o → o ≡ Some (view x)
  said_ok x result o is a = subst (λ (r : Result X HpkeError). Answers view HpkeOpenError r o) is a

  said_none : (result : Result X HpkeError) (o : Option (List ℕ)) → result ≡ Err HpkeOpenError → Answers view HpkeOpenError result o → o ≡ None
  said_none result None is a = refl
  said_none result (Some y) is a = absurd (let e = subst (λ (r : Result X HpkeError). Answers view HpkeOpenError r (Some y)) is a in cc e)

  answers : (context : Context) (result : Result X HpkeError) → context ≡ numbered start number
      → NumberedAnswers view HpkeOpenError result context.next (λ n. open_of context.key (nonce_of context.base_nonce n) [] sealed) → Answers view HpkeOpenError result (open_at open_of start number sealed)
  answers context result is a = subst (λ (c : Context). NumberedAnswers view HpkeOpenError result c.next (λ n. open_of c.key (nonce_of c.base_nonce n) [] sealed)) is a

  pub opens-ok : (context : Context) (x : X) (result : Result X HpkeError) → context ≡ numbered start number → result ≡ Ok x → (length sealed < tag → result ≡ Err HpkeOpenError)
      → (tag ≤ length sealed → NumberedAnswers view HpkeOpenError result context.next (λ n. open_of context.key (nonce_of context.base_nonce n) [] sealed))
      → open_at open_of start number sealed ≡ Some (view x)
  opens-ok context x result at is short long =
      elim (cases_lt (length sealed) tag) [
        | inl lt ↦ absurd (let e = sym is ∙ short lt in cc)
        | inr le ↦ said_ok x result (open_at open_of start number sealed) is (answers context result at (long le))
      ]

  pub opens-none : ((key nonce aad text sealed : List ℕ) → open_of key nonce aad sealed ≡ Some text → tag ≤ length sealed) → (context : Context) (result : Result X HpkeError) → context ≡ numbered start number
      → result ≡ Err HpkeOpenError → (tag ≤ length sealed → NumberedAnswers view HpkeOpenError result context.next (λ n. open_of context.key (nonce_of context.base_nonce n) [] sealed))
      → open_at open_of start number sealed ≡ None
  opens-none law context result at is long =
      elim (cases_lt (length sealed) tag) [
        | inl lt ↦ short_none law lt (open_at open_of start number sealed) refl
        | inr le ↦ said_none result (open_at open_of start number sealed) is (answers context result at (long le))
      ]

-- what a law of an AEAD says of lengths
pub sealed_law : (open_of seal_of : OpenMeaning) (tag : ℕ)
    → ((key nonce aad text sealed : List ℕ) → (open_of key nonce aad sealed ≡ Some text) ↔ (seal_of key nonce aad text ≡ Some sealed))
    → ((key nonce aad text sealed : List ℕ) → seal_of key nonce aad text ≡ Some sealed → length sealed ≡ length text + tag)
    → (key nonce aad text sealed : List ℕ) → open_of key nonce aad sealed ≡ Some text → tag ≤ length sealed
sealed_law open_of seal_of tag two_way size key nonce aad text sealed e = let len = size key nonce aad text sealed ((two_way key nonce aad text sealed).0 e) in omega arith
