-- What a mail comes to.
use Rattle.std.proofs.Common.{◌≡◌, ◌≢◌, ℕ, ◌+◌, true, List, [], ◌∷◌, length, Option, Some, None, refl, sym, ap, subst, ◌∙◌, ◌⊎◌, inl, inr, arith}
use Rattle.std.specs.Prelude.{◌==◌, if◌then◌else◌, Bool, false, IfSome, Ok, Err, codes}
use Rattle.age_format.specs.Stanza.{Stanza}
use Rattle.age_format.specs.Reading.{Reading, Reads, Before_done, Invalid_data, Unexpected_eof, Too_much}
use Rattle.age_format.specs.declared.error.PhaseError.{PhaseError}
use Rattle.age_format.specs.declared.error.PhaseError.TheVariants.{NoMemory as PhaseNoMemory, WriteFault as PhaseWriteFault, ReadFault as PhaseReadFault, InvalidData as PhaseInvalidData, UnexpectedEof as PhaseUnexpectedEof, TooMuch as PhaseTooMuch, UnexpectedReply as PhaseUnexpectedReply}
use Rattle.age_format.proofs.Readings.{same_reading, some_reading}
use Rattle.hpke.specs.Schedule.{Context}
use Rattle.kem_mail.specs.Mail.{Verdict, IsVerdict, Opener, Opens, SameBodies, bodies, with_first, open_at, opened, opened_with, judged_bodies, judged}
use Rattle.kem_mail.specs.Taken.{Lost, HoldsDone, StoppedBy, IsTaken}
use Rattle.kem_mail.specs.private.Answers.{Judges}
use Rattle.kem_mail.specs.private.Causes.{ComesOf}
use Rattle.kem_mail.specs.private.Opening.{IsRead, IsRefusedFor, ReadTaken}
use Rattle.kem_mail.specs.declared.error.MailError.{MailError}
use Rattle.kem_mail.specs.declared.error.MailError.TheVariants.{NoMemory, ReadFault, XofExhausted, InvalidData, UnexpectedEof, TooMuch, IncorrectInputLength, OpenError}

-- ---- what bodies come to

-- what bodies come to where there is a context
abbrev pub IsJudged : Verdict → Type 0
IsJudged (Err NoMemory) = ⊥
IsJudged (Err ReadFault) = ⊥
IsJudged (Err XofExhausted) = ⊥
IsJudged (Err InvalidData) = ⊥
IsJudged (Err UnexpectedEof) = ⊥
IsJudged (Err TooMuch) = ⊥
IsJudged verdict = Unit {0}

judged_first : (text : List ℕ) (v : Verdict) → IsJudged v → IsJudged (with_first text v)
judged_first text (Ok texts) h = tt
judged_first text (Err error) h = h

opened_judged_as : (meaning : ℕ → List ℕ → Option (List ℕ)) (number : ℕ) (first : List ℕ) (o : Option (List ℕ)) (v : Verdict) → IsJudged v
    → IsJudged (elim o [ None ↦ Err (OpenError number) | Some text ↦ with_first text v ])
opened_judged_as meaning number first None v h = tt
opened_judged_as meaning number first (Some text) v h = judged_first text v h

pub opened_judged : (meaning : ℕ → List ℕ → Option (List ℕ)) (number : ℕ) (sealed : List (List ℕ)) → IsJudged (opened meaning number sealed)
opened_judged meaning number [] = tt
opened_judged meaning number (first ∷ others) = opened_judged_as meaning number first (meaning number first) (opened meaning (number + 1) others) (opened_judged meaning (number + 1) others)

-- what bodies come to, with a context or without
abbrev pub IsJudgedOr : Verdict → Type 0
IsJudgedOr v = IsJudged v ⊎ (v ≡ Err XofExhausted)

with_judged : (opener : Opener) (o : Option Context) (sealed : List (List ℕ)) → IsJudgedOr (opened_with opener o sealed)
with_judged opener None sealed = inr refl
with_judged opener (Some context) sealed = inl (opened_judged (open_at opener.open_of context) 0 sealed)

sized_judged : (sized : Bool) (v : Verdict) (expected given : ℕ) → IsJudgedOr v → IsJudgedOr (if sized then v else Err (IncorrectInputLength expected given))
sized_judged true v expected given h = h
sized_judged false v expected given h = inl tt

pub bodies_judged : (opener : Opener) (keys sealed : List (List ℕ)) → IsJudgedOr (judged_bodies opener keys sealed)
bodies_judged opener [] sealed = inl tt
bodies_judged opener (key ∷ []) sealed = sized_judged (length key == opener.key_size) (opened_with opener (opener.context_of key) sealed) opener.key_size (length key) (with_judged opener (opener.context_of key) sealed)
bodies_judged opener (key ∷ other ∷ keys) sealed = inl tt

same_length : (m n : ℕ) → m ≡ n → (m == n) ≡ true
same_length m n e = grind (arith, e)

-- one key of the right length, which brings a context
pub judged_one : (opener : Opener) (keys sealed : List (List ℕ)) (key : List ℕ) (context : Context) → keys ≡ key ∷ [] → length key ≡ opener.key_size → opener.context_of key ≡ Some context
    → judged_bodies opener keys sealed ≡ opened (open_at opener.open_of context) 0 sealed
judged_one opener keys sealed key context one size has =
    ap (λ (ks : List (List ℕ)). judged_bodies opener ks sealed) one
    ∙ (ap (λ (sized : Bool). if sized then opened_with opener (opener.context_of key) sealed else Err (IncorrectInputLength opener.key_size (length key))) (same_length (length key) opener.key_size size)
    ∙ ap (λ (o : Option Context). opened_with opener o sealed) has)

-- ---- verdicts

verdict_of : (v : Verdict) → IsJudgedOr v → IsVerdict v
verdict_of v (inl j) = ((λ e. subst IsJudged e j), (λ e. subst IsJudged e j))
verdict_of v (inr key) = ((λ e. let f = sym key ∙ e in cc f), (λ e. let f = sym key ∙ e in cc f))

reading_verdict : (opener : Opener) (reading : Reading) → IsVerdict (judged opener reading)
reading_verdict opener (Before_done stanzas) = verdict_of (judged_bodies opener (bodies (codes "kem") stanzas) (bodies (codes "msg") stanzas)) (bodies_judged opener (bodies (codes "kem") stanzas) (bodies (codes "msg") stanzas))
reading_verdict opener Invalid_data = ((λ e. cc e), (λ e. cc e))
reading_verdict opener Unexpected_eof = ((λ e. cc e), (λ e. cc e))
reading_verdict opener Too_much = ((λ e. cc e), (λ e. cc e))

-- what a mail comes to is a verdict
pub opens_verdict : (opener : Opener) (text : List ℕ) (budget : ℕ) (v : Verdict) → Opens opener text budget v → IsVerdict v
opens_verdict opener text budget v opens = subst IsVerdict (sym opens.verdict_is) (reading_verdict opener opens.reading)

-- a mail has one verdict
pub same_verdict : (opener : Opener) (text : List ℕ) (budget : ℕ) (v w : Verdict) → Opens opener text budget v → Opens opener text budget w → v ≡ w
same_verdict opener text budget v w one other =
    one.verdict_is ∙ (ap (judged opener) (same_reading text budget one.reading other.reading one.reads other.reads) ∙ sym other.verdict_is)

-- no mail is without a verdict
pub some_verdict : (opener : Opener) (text : List ℕ) (budget : ℕ) → ((v : Verdict) → Opens opener text budget v → ⊥) → ⊥
some_verdict opener text budget none = some_reading text budget (λ reading reads. none (judged opener reading) (record { reading = reading; reads = reads; verdict_is = refl }))

-- two mails with the same bodies before their first `done` have one verdict
pub same_bodies_verdict : (opener : Opener) (one other : List ℕ) (budget limit : ℕ) (v : Verdict) → SameBodies one budget other limit → Opens opener one budget v → Opens opener other limit v
same_bodies_verdict opener one other budget limit v same o =
    let first : v ≡ judged opener (Before_done same.stanzas) = o.verdict_is ∙ ap (judged opener) (same_reading one budget o.reading (Before_done same.stanzas) o.reads same.reads) in
    let keys = ap (λ (keys : List (List ℕ)). judged_bodies opener keys (bodies (codes "msg") same.stanzas)) same.same_keys in
    let sealed = ap (judged_bodies opener (bodies (codes "kem") same.others)) same.same_sealed in
    record { reading = Before_done same.others; reads = same.reads_other; verdict_is = first ∙ (keys ∙ sealed) }

-- ---- what judging answers

judges_said : (result v : Verdict) → Judges (λ (m : List (List ℕ)). m) result v → (result ≡ v) ⊎ (result ≡ Err NoMemory)
judges_said (Ok messages) v j = inl (sym j)
judges_said (Err error) v (inl memory) = inr (ap Err memory)
judges_said (Err error) v (inr same) = inl (sym same)

-- what messages come to is never for want of a key
pub opened_has_key : (meaning : ℕ → List ℕ → Option (List ℕ)) (number : ℕ) (sealed : List (List ℕ)) (result : Verdict) → Judges (λ (m : List (List ℕ)). m) result (opened meaning number sealed) → result ≢ Err XofExhausted
opened_has_key meaning number sealed result j is = elim (judges_said result (opened meaning number sealed) j) [
  | inl same ↦ subst IsJudged (sym same ∙ is) (opened_judged meaning number sealed)
  | inr memory ↦ let both : ◌≡◌ {A = Verdict} (Err NoMemory) (Err XofExhausted) = sym memory ∙ is in absurd (cc both)
]

module _ (opener : Opener) (stanzas : List Stanza) (result : Verdict) (judges : Judges (λ (m : List (List ℕ)). m) result (judged opener (Before_done stanzas))) where
  opens_as : (text : List ℕ) (budget : ℕ) → Reads text budget (Before_done stanzas) → (result ≡ judged opener (Before_done stanzas)) ⊎ (result ≡ Err NoMemory) → IsVerdict result → Opens opener text budget result
  opens_as text budget reads (inl same) is = record { reading = Before_done stanzas; reads = reads; verdict_is = same }
  opens_as text budget reads (inr memory) is = absurd (is.0 memory)

  -- the answer is the mail's verdict
  pub done_opens : (l : Option (List ℕ)) (budget : ℕ) → IfSome l (λ text. Reads text budget (Before_done stanzas)) → IfSome l (λ text. IsVerdict result → Opens opener text budget result)
  done_opens None budget reads = tt
  done_opens (Some text) budget reads = opens_as text budget reads (judges_said result (judged opener (Before_done stanzas)) judges)

  complete_as : (text : List ℕ) (budget : ℕ) (v : Verdict) → Reads text budget (Before_done stanzas) → Opens opener text budget v → (result ≡ judged opener (Before_done stanzas)) ⊎ (result ≡ Err NoMemory) → (result ≡ v) ⊎ (result ≡ Err NoMemory)
  complete_as text budget v reads opens (inl same) = inl (same ∙ (ap (judged opener) (same_reading text budget (Before_done stanzas) opens.reading reads opens.reads) ∙ sym opens.verdict_is))
  complete_as text budget v reads opens (inr memory) = inr memory

  -- the mail's verdict is the answer
  pub done_complete : (R : Type 0) (l : Option (List ℕ)) (budget : ℕ) → IfSome l (λ text. Reads text budget (Before_done stanzas))
      → IfSome l (λ text. (v : Verdict) → Opens opener text budget v → (R → ⊥) → (result ≡ v) ⊎ (result ≡ Err NoMemory))
  done_complete R None budget reads = tt
  done_complete R (Some text) budget reads = λ v opens calm. complete_as text budget v reads opens (judges_said result (judged opener (Before_done stanzas)) judges)

  judged_as : (result ≡ judged opener (Before_done stanzas)) ⊎ (result ≡ Err NoMemory) → IsJudgedOr result ⊎ (result ≡ Err NoMemory)
  judged_as (inl same) = inl (subst IsJudgedOr (sym same) (bodies_judged opener (bodies (codes "kem") stanzas) (bodies (codes "msg") stanzas)))
  judged_as (inr memory) = inr memory

  answer_judged : IsJudgedOr result ⊎ (result ≡ Err NoMemory)
  answer_judged = judged_as (judges_said result (judged opener (Before_done stanzas)) judges)

  not_as : (e : MailError) → (IsJudged (Err e) → ⊥) → e ≢ XofExhausted → e ≢ NoMemory → IsJudgedOr result ⊎ (result ≡ Err NoMemory) → result ≢ Err e
  not_as e other x m (inl (inl j)) is = other (subst IsJudged is j)
  not_as e other x m (inl (inr key)) is = x (let same = sym is ∙ key in cc same)
  not_as e other x m (inr memory) is = m (let same = sym is ∙ memory in cc same)

  -- no fault of the source and no end of it is answered
  pub done_no_fault : result ≢ Err ReadFault
  done_no_fault = not_as ReadFault (λ j. j) (λ e. cc e) (λ e. cc e) answer_judged

  pub done_not_ended : result ≢ Err UnexpectedEof
  done_not_ended = not_as UnexpectedEof (λ j. j) (λ e. cc e) (λ e. cc e) answer_judged

stopped_judged : (result : Verdict) (budget : ℕ) (bytes : List ℕ) → IsJudged result → HoldsDone bytes → StoppedBy result budget bytes
stopped_judged (Err NoMemory) budget bytes j holds = absurd j
stopped_judged (Err ReadFault) budget bytes j holds = absurd j
stopped_judged (Err XofExhausted) budget bytes j holds = absurd j
stopped_judged (Err InvalidData) budget bytes j holds = absurd j
stopped_judged (Err UnexpectedEof) budget bytes j holds = absurd j
stopped_judged (Err TooMuch) budget bytes j holds = absurd j
stopped_judged result budget bytes j holds = holds

stopped_as : (result : Verdict) (budget : ℕ) (bytes : List ℕ) → IsJudgedOr result ⊎ (result ≡ Err NoMemory) → result ≢ Err XofExhausted → HoldsDone bytes → StoppedBy result budget bytes
stopped_as result budget bytes (inl (inl j)) key holds = stopped_judged result budget bytes j holds
stopped_as result budget bytes (inl (inr e)) key holds = absurd (key e)
stopped_as result budget bytes (inr memory) key holds = subst (λ (v : Verdict). StoppedBy v budget bytes) (sym memory) tt

-- what was taken for the stanzas was taken for the answer
pub done_taken : {X : Type 0} (opener : Opener) (stanzas : List Stanza) (result : Verdict) → Judges (λ (m : List (List ℕ)). m) result (judged opener (Before_done stanzas)) → result ≢ Err XofExhausted
    → (l m : Option (List ℕ)) (budget : ℕ) (x : X) → Lost l m (ReadTaken {X = X} budget (Ok x)) → Lost l m (IsTaken budget result)
done_taken opener stanzas result judges key None m budget x taken = tt
done_taken opener stanzas result judges key (Some text) m budget x taken =
    let read = taken.4 in
    (taken.0, taken.1, taken.2, taken.3, record { within = read.within; behind = read.behind; stopped = stopped_as result budget taken.0 (answer_judged opener stanzas result judges) key read.stopped })

-- ---- where there are no stanzas

module _ {X : Type 0} (view : X → List Stanza) (opener : Opener) where
  refused_as : (text : List ℕ) (budget : ℕ) (phase : PhaseError) (error : MailError) → ComesOf phase error → IsRefusedFor phase text budget → IsVerdict (Err error) → Opens opener text budget (Err error)
  refused_as text budget PhaseNoMemory error same read is = absurd (is.0 (ap Err same))
  refused_as text budget PhaseReadFault error same read is = absurd (is.1 (ap Err same))
  refused_as text budget PhaseInvalidData error same read is = record { reading = Invalid_data; reads = read; verdict_is = ap Err same }
  refused_as text budget PhaseUnexpectedEof error same read is = record { reading = Unexpected_eof; reads = read; verdict_is = ap Err same }
  refused_as text budget PhaseTooMuch error same read is = record { reading = Too_much; reads = read; verdict_is = ap Err same }
  refused_as text budget PhaseWriteFault error same read is = absurd same
  refused_as text budget (PhaseUnexpectedReply tag) error same read is = absurd same

  -- the refusal is the mail's verdict
  pub refused_opens : (l : Option (List ℕ)) (budget : ℕ) (e : MailError) → IfSome l (λ text. IsRead view text budget (Err e)) → IfSome l (λ text. IsVerdict (Err e) → Opens opener text budget (Err e))
  refused_opens None budget e read = tt
  refused_opens (Some text) budget e (phase, same, read) = refused_as text budget phase e same read

  -- an error that is want of memory, a fault of the source or a verdict
  memory_or : (phase : PhaseError) (error : MailError) → ComesOf phase error → error ≢ ReadFault → (error ≡ NoMemory) ⊎ IsVerdict (Err error)
  memory_or PhaseNoMemory error same calm = inl same
  memory_or PhaseReadFault error same calm = absurd (calm same)
  memory_or PhaseInvalidData error same calm = inr ((λ e. cc), (λ e. cc))
  memory_or PhaseUnexpectedEof error same calm = inr ((λ e. cc), (λ e. cc))
  memory_or PhaseTooMuch error same calm = inr ((λ e. cc), (λ e. cc))
  memory_or PhaseWriteFault error same calm = absurd same
  memory_or (PhaseUnexpectedReply tag) error same calm = absurd same

  complete_refused : (text : List ℕ) (budget : ℕ) (phase : PhaseError) (error : MailError) (v : Verdict) → ComesOf phase error → IsRefusedFor phase text budget → Opens opener text budget v → error ≢ ReadFault
      → (Err error ≡ v) ⊎ (◌≡◌ {A = Verdict} (Err error) (Err NoMemory))
  complete_refused text budget phase error v same read opens calm = elim (memory_or phase error same calm) [
    | inl memory ↦ inr (ap Err memory)
    | inr is ↦ inl (same_verdict opener text budget (Err error) v (refused_as text budget phase error same read is) opens)
  ]

  -- the mail's verdict is the refusal
  pub refused_complete : (R : Type 0) (l : Option (List ℕ)) (budget : ℕ) (e : MailError) → IfSome l (λ text. IsRead view text budget (Err e)) → (e ≡ ReadFault → R)
      → IfSome l (λ text. (v : Verdict) → Opens opener text budget v → (R → ⊥) → (Err e ≡ v) ⊎ (◌≡◌ {A = Verdict} (Err e) (Err NoMemory)))
  refused_complete R None budget e read rose = tt
  refused_complete R (Some text) budget e (phase, same, read) rose = λ v opens calm. complete_refused text budget phase e v same read opens (λ fault. calm (rose fault))

-- no phase refuses for want of a key
phase_has_key : (phase : PhaseError) (error : MailError) → ComesOf phase error → error ≢ XofExhausted
phase_has_key PhaseNoMemory error is e = cc
phase_has_key PhaseReadFault error is e = cc
phase_has_key PhaseInvalidData error is e = cc
phase_has_key PhaseUnexpectedEof error is e = cc
phase_has_key PhaseTooMuch error is e = cc
phase_has_key PhaseWriteFault error is e = absurd is
phase_has_key (PhaseUnexpectedReply tag) error is e = absurd is

pub refused_has_key : (e : MailError) → ((phase : PhaseError) × ComesOf phase e) → e ≢ XofExhausted
refused_has_key e (phase, is) = phase_has_key phase e is

-- what was taken for a refusal of the stanzas was taken for the answer
pub refused_taken : (X : Type 0) (l m : Option (List ℕ)) (budget : ℕ) (e : MailError) → Lost l m (ReadTaken {X = X} budget (Err e)) → Lost l m (IsTaken budget (Err e))
refused_taken X None m budget e taken = tt
refused_taken X (Some text) m budget e taken =
    let read = taken.4 in
    (taken.0, taken.1, taken.2, taken.3, record { within = read.within; behind = read.behind; stopped = read.stopped })
