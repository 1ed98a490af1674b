-- What a run takes of its source, and what it ends with.
use Rattle.std.proofs.Common.{◌≡◌, ◌≢◌, ℕ, ◌+◌, ◌≤◌, List, [], ◌∷◌, ◌++◌, length, take, Option, Some, None, Ok, Err, refl, sym, ap, subst, ◌∙◌, ◌⊎◌, inl, inr, arith}
use Rattle.std.specs.Prelude.{IfSome}
use Rattle.std.proofs.lemmas.List.{append-nil, length-append, nil_from_length, take-append-le, take-take}
use Rattle.kem_hash.specs.Family.{Family}
use Rattle.ml_kem.specs.Keys.{Key as KeyRecord, key_of}
use Rattle.age_format.specs.Outside.{Rose}
use Rattle.mail_commands.specs.Command.{parameters, kdf_algorithm, aead_algorithm, aead_open}
use Rattle.mail_commands.specs.Input.{IsHead, IsLineText, IsSeedLine, IsPart, FailsAt, BeginsNone, Begins, EndsInside, StopsAt}
use Rattle.kem_mail.specs.Mail.{IsVerdict, OpensByKey, Verdict}
use Rattle.mail_commands.specs.Due.{ComesTo, EndsWith, Ends, Fails, IsAnswer, IsInput, Outcome, key_verdict, of_verdict, outcome_status}
use Rattle.kem_mail.specs.Taken.{Lost, IsTaken}
use Rattle.mail_commands.specs.Taken.{StopsWithin, InputTakes, Reaches, OpenTakes, RefusalTakes, IsAtEnd, MostTakes, Takes, WholeTakes}
use Rattle.mail_commands.specs.Run.{CameTo, IsTold}
use Rattle.generated_mail.specs.Told.{Generates}
use Rattle.generated_mail.proofs.Mails.{told_verdict}
use Rattle.mail_commands.specs.private.Opening.{IsOpened}
use Rattle.mail_commands.specs.declared.command.Command.{Command}
use Rattle.mail_commands.specs.declared.command.Command.TheVariants.{Open, Key, Seal, Gen}
use Rattle.mail_commands.specs.declared.command.SuiteName.{SuiteName}
use Rattle.mail_commands.specs.declared.command.SetName.{SetName}
use Rattle.kem_mail.specs.declared.error.MailError.{MailError}
use Rattle.kem_mail.specs.declared.error.MailError.TheVariants.{NoMemory, XofExhausted, ReadFault, UnexpectedEof}
use Rattle.mail_commands.specs.declared.error.RunError.{RunError}
use Rattle.mail_commands.specs.declared.error.RunError.TheVariants.{Place, Ended, InvalidKey, Mail}
use Rattle.mail_commands.proofs.Joins.{Begins-take, Begins-whole, Reaches-begins}
use Rattle.mail_commands.proofs.Inputs.{nil_right, IsPart-take, StopsWithin-whole, Lost_then, Lost_weaker, ended_then}

-- ---- the most that is taken

-- nothing was taken behind the byte that decides
input_stops : (Is : List ℕ → Type 0) (e : RunError) (bytes : List ℕ) → InputTakes Is e bytes → StopsWithin Is bytes
input_stops Is (Place place) bytes (long, fails) = λ n lt.
    let le : n ≤ place = omega (arith, long, lt) in
    subst (IsPart Is) (take-take-le n place bytes le) (IsPart-take Is n (take place bytes) fails.part)
  where
    take-take-le : (n m : ℕ) (xs : List ℕ) → n ≤ m → take n (take m xs) ≡ take n xs
    take-take-le n m xs le = search (le, take-take)
input_stops Is Ended bytes part = λ n lt. IsPart-take Is n bytes part
input_stops Is InvalidKey bytes none = absurd none
input_stops Is (Mail error) bytes (inl (is, stops)) = stops
input_stops Is (Mail error) bytes (inr (is, part)) = λ n lt. IsPart-take Is n bytes part

open_reaches : (Is : List ℕ → Type 0) (e : RunError) (bytes : List ℕ) → OpenTakes Is e bytes → Reaches Is bytes
open_reaches Is (Place place) bytes (long, stops) = λ n lt.
    let le : n ≤ place = omega (arith, long, lt) in
    subst (Begins Is) (short n place bytes le) (Begins-take Is n (take place bytes) stops.begins)
  where
    short : (n m : ℕ) (xs : List ℕ) → n ≤ m → take n (take m xs) ≡ take n xs
    short n m xs le = search (le, take-take)
open_reaches Is Ended bytes (begins, not) = Reaches-begins Is bytes begins
open_reaches Is InvalidKey bytes none = absurd none
open_reaches Is (Mail error) bytes (inl (is, reaches)) = reaches
open_reaches Is (Mail error) bytes (inr (is, begins)) = Reaches-begins Is bytes begins

-- nothing is a part of no input
no_part : (text : List ℕ) → IsPart (λ t. t ≡ []) text → ⊥
no_part text (more, some, none) = some (nil_right text more none)

none_taken : (e : RunError) (bytes : List ℕ) → InputTakes (λ t. t ≡ []) e bytes → bytes ≡ []
none_taken (Place place) bytes (long, fails) = absurd (no_part (take place bytes) fails.part)
none_taken Ended bytes part = absurd (no_part bytes part)
none_taken InvalidKey bytes none = absurd none
none_taken (Mail error) [] (inl (is, stops)) = refl
none_taken (Mail error) (x ∷ xs) (inl (is, stops)) = absurd (no_part (take 0 (x ∷ xs)) (stops 0 (omega arith)))
none_taken (Mail error) bytes (inr (is, part)) = absurd (no_part bytes part)

refusal_most : (command : Command) (e : RunError) (bytes : List ℕ) → RefusalTakes command e bytes → MostTakes command bytes
refusal_most (Open suite budget) e bytes t = inl (input_stops (IsInput (Open suite budget)) e bytes t)
refusal_most (Key set) e bytes t = input_stops (IsInput (Key set)) e bytes t
refusal_most (Seal suite) e bytes t = open_reaches (IsInput (Seal suite)) e bytes t
refusal_most (Gen count) e bytes t = none_taken e bytes t

whole_most : (family : Family) (command : Command) (o : Outcome) (bytes : List ℕ) → WholeTakes family command o bytes → MostTakes command bytes
whole_most family (Open suite budget) o bytes (head, mail, seed, info, verdict, whole, is, key, taken, same) = inr (head, mail, whole, (seed, info, is), taken.within, taken.behind)
whole_most family (Key set) o bytes (seed, line, said) = StopsWithin-whole (IsLineText 128 128) bytes (seed, line)
whole_most family (Gen count) o bytes is = is.0
whole_most family (Seal suite) o bytes is = Reaches-begins (IsInput (Seal suite)) bytes (Begins-whole (IsInput (Seal suite)) bytes is)

takes_most : (family : Family) (command : Command) (outcome : Outcome) (bytes : List ℕ) → Takes family command outcome bytes → MostTakes command bytes
takes_most family command (Ok items) bytes t = whole_most family command (Ok items) bytes t
takes_most family command (Err (Place place)) bytes t = refusal_most command (Place place) bytes t
takes_most family command (Err Ended) bytes t = refusal_most command Ended bytes t
takes_most family command (Err InvalidKey) bytes t = whole_most family command (Err InvalidKey) bytes t
takes_most family command (Err (Mail error)) bytes (inl t) = refusal_most command (Mail error) bytes t
takes_most family command (Err (Mail error)) bytes (inr t) = whole_most family command (Err (Mail error)) bytes t

pub lost_most : (family : Family) (command : Command) (outcome : Outcome) (left now : Option (List ℕ)) → Lost left now (Takes family command outcome) → Lost left now (MostTakes command)
lost_most family command outcome left now l = Lost_weaker left now (Takes family command outcome) (MostTakes command) l (takes_most family command outcome)

-- ---- statuses that answer nothing

not_four_or_six : (status : ℕ) → IsAnswer status → (status ≡ 4) ⊎ (status ≡ 6) → ⊥
not_four_or_six status (inl e) (inl f) = omega (arith, e, f)
not_four_or_six status (inl e) (inr f) = omega (arith, e, f)
not_four_or_six status (inr (inl e)) (inl f) = omega (arith, e, f)
not_four_or_six status (inr (inl e)) (inr f) = omega (arith, e, f)
not_four_or_six status (inr (inr e)) (inl f) = omega (arith, e, f)
not_four_or_six status (inr (inr e)) (inr f) = omega (arith, e, f)

pub not_memory : (outcome : Outcome) → IsAnswer (outcome_status outcome) → outcome ≢ Err (Mail NoMemory)
not_memory outcome answer is = not_four_or_six (outcome_status outcome) answer (inr (ap outcome_status is))

pub not_fault : (outcome : Outcome) → IsAnswer (outcome_status outcome) → outcome ≢ Err (Mail ReadFault)
not_fault outcome answer is = not_four_or_six (outcome_status outcome) answer (inl (ap outcome_status is))

-- ---- an input that was refused

-- a text fails where its front does
fails_front : (Is : List ℕ → Type 0) (bytes rest : List ℕ) (place : ℕ) → length bytes ≡ place + 1 → FailsAt Is bytes place → FailsAt Is (bytes ++ rest) place
fails_front Is bytes rest place long f = record {
  within = omega (arith, long, length-append bytes rest);
  part = subst (IsPart Is) (sym (take-append-le place bytes rest (omega (arith, long)))) f.part;
  fails = subst (BeginsNone Is) (sym (take-append-le (place + 1) bytes rest (omega (arith, long)))) f.fails;
}

-- the text ended there
no_rest : (rest : List ℕ) (now : Option (List ℕ)) → now ≡ Some rest → now ≡ Some [] → rest ≡ []
no_rest rest now e f = let same : Some rest ≡ Some [] = sym e ∙ f in cc

-- an input was refused: here a byte can't stand, or here the text ends
abbrev Refused : (List ℕ → ℕ → Type 0) → (List ℕ → Type 0) → RunError → List ℕ → Type 0
Refused Stop End (Place place) text = Stop text place
Refused Stop End Ended text = End text
Refused Stop End InvalidKey text = ⊥
Refused Stop End (Mail error) text = ⊥

-- all of the text was taken
pub all_taken : (text bytes rest : List ℕ) (now : Option (List ℕ)) → text ≡ bytes ++ rest → now ≡ Some rest → now ≡ Some [] → bytes ≡ text
all_taken text bytes rest now whole is none = sym (append-nil bytes) ∙ (ap (λ (t : List ℕ). bytes ++ t) (sym (no_rest rest now is none)) ∙ sym whole)

-- memory ran out, or the source failed: nothing is owed
unanswered : (error : MailError) → IsAnswer (outcome_status (Err (Mail error))) → (error ≡ NoMemory) ⊎ (error ≡ ReadFault) → ⊥
unanswered error answer (inl memory) = not_memory (Err (Mail error)) answer (ap (λ (x : MailError). Err (Mail x)) memory)
unanswered error answer (inr fault) = not_fault (Err (Mail error)) answer (ap (λ (x : MailError). Err (Mail x)) fault)

input_refused : (Is : List ℕ → Type 0) (e : RunError) (left now : Option (List ℕ)) → Lost left now (InputTakes Is e) → (e ≡ Ended → IfSome left (λ text. now ≡ Some []))
    → IfSome left (λ text. IsAnswer (outcome_status (Err e)) → Refused (λ t place. FailsAt Is t place) (λ t. IsPart Is t) e text)
input_refused Is e None now l ended = tt
input_refused Is (Place place) (Some text) now (bytes, rest, whole, is, failed) ended = λ answer.
    subst (λ (t : List ℕ). FailsAt Is t place) (sym whole) (fails_front Is bytes rest place failed.0 failed.1)
input_refused Is Ended (Some text) now (bytes, rest, whole, is, part) ended = λ answer.
    subst (IsPart Is) (all_taken text bytes rest now whole is (ended refl)) part
input_refused Is InvalidKey (Some text) now (bytes, rest, whole, is, none) ended = λ answer. absurd none
input_refused Is (Mail error) (Some text) now (bytes, rest, whole, is, inl memory) ended = λ answer. absurd (unanswered error answer (inl memory.0))
input_refused Is (Mail error) (Some text) now (bytes, rest, whole, is, inr fault) ended = λ answer. absurd (unanswered error answer (inr fault.0))

-- a text stops where its front does
stops_front : (Is : List ℕ → Type 0) (bytes rest : List ℕ) (place : ℕ) → length bytes ≡ place + 1 → StopsAt Is bytes place → StopsAt Is (bytes ++ rest) place
stops_front Is bytes rest place long s = record {
  within = omega (arith, long, length-append bytes rest);
  begins = subst (Begins Is) (sym (take-append-le place bytes rest (omega (arith, long)))) s.begins;
  fails = subst (BeginsNone Is) (sym (take-append-le (place + 1) bytes rest (omega (arith, long)))) s.fails;
}

open_refused : (Is : List ℕ → Type 0) (e : RunError) (left now : Option (List ℕ)) → Lost left now (OpenTakes Is e) → (e ≡ Ended → IfSome left (λ text. now ≡ Some []))
    → IfSome left (λ text. IsAnswer (outcome_status (Err e)) → Refused (λ t place. StopsAt Is t place) (λ t. EndsInside Is t) e text)
open_refused Is e None now l ended = tt
open_refused Is (Place place) (Some text) now (bytes, rest, whole, is, failed) ended = λ answer.
    subst (λ (t : List ℕ). StopsAt Is t place) (sym whole) (stops_front Is bytes rest place failed.0 failed.1)
open_refused Is Ended (Some text) now (bytes, rest, whole, is, inside) ended = λ answer.
    subst (EndsInside Is) (all_taken text bytes rest now whole is (ended refl)) inside
open_refused Is InvalidKey (Some text) now (bytes, rest, whole, is, none) ended = λ answer. absurd none
open_refused Is (Mail error) (Some text) now (bytes, rest, whole, is, inl memory) ended = λ answer. absurd (unanswered error answer (inl memory.0))
open_refused Is (Mail error) (Some text) now (bytes, rest, whole, is, inr fault) ended = λ answer. absurd (unanswered error answer (inr fault.0))

-- so the command ends with the refusal
ends_refused : (family : Family) (command : Command) (e : RunError) (text : List ℕ) → Refused (λ t place. Fails command t place) (λ t. Ends command t) e text → EndsWith family command text (Err e)
ends_refused family command (Place place) text h = h
ends_refused family command Ended text h = h
ends_refused family command InvalidKey text h = absurd h
ends_refused family command (Mail error) text h = absurd h

refused : (command : Command) (e : RunError) (left now : Option (List ℕ)) → Lost left now (RefusalTakes command e) → (e ≡ Ended → IfSome left (λ text. now ≡ Some []))
    → IfSome left (λ text. IsAnswer (outcome_status (Err e)) → Refused (λ t place. Fails command t place) (λ t. Ends command t) e text)
refused (Open suite budget) e left now l ended = input_refused (IsInput (Open suite budget)) e left now l ended
refused (Key set) e left now l ended = input_refused (IsInput (Key set)) e left now l ended
refused (Gen count) e left now l ended = input_refused (IsInput (Gen count)) e left now l ended
refused (Seal suite) e left now l ended = open_refused (IsInput (Seal suite)) e left now l ended

refusal_ends : (family : Family) (command : Command) (e : RunError) (left now : Option (List ℕ)) → Lost left now (RefusalTakes command e) → (e ≡ Ended → IfSome left (λ text. now ≡ Some []))
    → IfSome left (λ text. IsAnswer (outcome_status (Err e)) → EndsWith family command text (Err e))
refusal_ends family command e None now l ended = tt
refusal_ends family command e (Some text) now l ended = λ answer. ends_refused family command e text (refused command e (Some text) now l ended answer)

-- a key is refused behind the whole input alone
no_invalid : (command : Command) (bytes : List ℕ) → RefusalTakes command InvalidKey bytes → ⊥
no_invalid (Open suite budget) bytes t = t
no_invalid (Key set) bytes t = t
no_invalid (Seal suite) bytes t = t
no_invalid (Gen count) bytes t = t

refusal_takes : (family : Family) (command : Command) (e : RunError) (bytes : List ℕ) → RefusalTakes command e bytes → Takes family command (Err e) bytes
refusal_takes family command (Place place) bytes t = t
refusal_takes family command Ended bytes t = t
refusal_takes family command InvalidKey bytes t = absurd (no_invalid command bytes t)
refusal_takes family command (Mail error) bytes t = inl t

-- a refusal as an outcome
abbrev refusal : RunError → Outcome
refusal e = Err e

-- the source isn't at its end for a mail that was not read
input_at_end : (Is : List ℕ → Type 0) (e : RunError) (left now : Option (List ℕ)) → Lost left now (InputTakes Is e) → (e ≡ Ended → IfSome left (λ text. now ≡ Some []))
    → (refusal e ≡ Err Ended) ⊎ (refusal e ≡ Err (Mail UnexpectedEof)) → IfSome left (λ text. now ≡ Some [])
input_at_end Is e None now l ended at_end = tt
input_at_end Is e (Some text) now l ended (inl is) = ended (cc is)
input_at_end Is e (Some text) now (bytes, rest, whole, same, takes) ended (inr is) =
    let mail : e ≡ Mail UnexpectedEof = cc is in absurd (none (subst (λ (x : RunError). InputTakes Is x bytes) mail takes))
  where
    none : InputTakes Is (Mail UnexpectedEof) bytes → ⊥
    none (inl memory) = let no = memory.0 in cc no
    none (inr fault) = let no = fault.0 in cc no

-- nor for a key that was not judged
open_at_end : (suite : SuiteName) (e : RunError) (left now : Option (List ℕ)) → Lost left now (OpenTakes (IsInput (Seal suite)) e) → (e ≡ Ended → IfSome left (λ text. now ≡ Some []))
    → IsAtEnd (Seal suite) (Err e) → IfSome left (λ text. now ≡ Some [])
open_at_end suite e None now l ended at_end = tt
open_at_end suite e (Some text) now l ended (inl is) = ended (cc is)
open_at_end suite e (Some text) now (bytes, rest, whole, same, takes) ended (inr (inl is)) =
    let invalid : e ≡ InvalidKey = cc is in absurd (subst (λ (x : RunError). OpenTakes (IsInput (Seal suite)) x bytes) invalid takes)
open_at_end suite e (Some text) now (bytes, rest, whole, same, takes) ended (inr (inr (inl is))) =
    let mail : e ≡ Mail XofExhausted = cc is in absurd (none (subst (λ (x : RunError). OpenTakes (IsInput (Seal suite)) x bytes) mail takes))
  where
    none : OpenTakes (IsInput (Seal suite)) (Mail XofExhausted) bytes → ⊥
    none (inl memory) = let no = memory.0 in cc no
    none (inr fault) = let no = fault.0 in cc no
open_at_end suite e (Some text) now l ended (inr (inr (inr (items, is)))) = absurd (cc is)

refusal_at_end : (command : Command) (e : RunError) (left now : Option (List ℕ)) → Lost left now (RefusalTakes command e) → (e ≡ Ended → IfSome left (λ text. now ≡ Some [])) → IsAtEnd command (Err e) → IfSome left (λ text. now ≡ Some [])
refusal_at_end (Open suite budget) e left now l ended at_end = input_at_end (IsInput (Open suite budget)) e left now l ended at_end
refusal_at_end (Key set) e left now l ended at_end = input_at_end (IsInput (Key set)) e left now l ended at_end
refusal_at_end (Gen count) e left now l ended at_end = absurd at_end
refusal_at_end (Seal suite) e left now l ended at_end = open_at_end suite e left now l ended at_end

pub came_refused : (family : Family) (command : Command) (e : RunError) (left now : Option (List ℕ)) (faults faults_now : ℕ) → Lost left now (RefusalTakes command e)
    → (e ≡ Ended → IfSome left (λ text. now ≡ Some [])) → (e ≡ Mail ReadFault → Rose faults faults_now) → ((e ≡ Mail ReadFault → ⊥) → faults_now ≡ faults) → CameTo family command left now faults faults_now (Err e)
came_refused family command e left now faults faults_now l ended rose calm = record {
  ends_with = refusal_ends family command e left now l ended;
  took = Lost_weaker left now (RefusalTakes command e) (Takes family command (Err e)) l (refusal_takes family command e);
  at_end = refusal_at_end command e left now l ended;
  read_fault = λ is. rose (cc is);
  no_fault = λ not. calm (λ is. not (ap Err is));
}

-- ---- an input that was read

pub ends_verdict : (family : Family) (command : Command) (text : List ℕ) (v : Verdict) → ComesTo family command text (of_verdict v) → EndsWith family command text (of_verdict v)
ends_verdict family command text (Ok items) comes = comes
ends_verdict family command text (Err error) comes = comes

takes_verdict : (family : Family) (command : Command) (v : Verdict) (bytes : List ℕ) → WholeTakes family command (of_verdict v) bytes → Takes family command (of_verdict v) bytes
takes_verdict family command (Ok items) bytes t = t
takes_verdict family command (Err error) bytes t = inr t

-- an outcome of a mail is that of its verdict
verdict_back : (v : Verdict) (e : MailError) → of_verdict v ≡ Err (Mail e) → v ≡ Err e
verdict_back (Ok items) e is = absurd (cc is)
verdict_back (Err error) e is = let same : error ≡ e = cc is in ap Err same

verdict_ended : (v : Verdict) → (of_verdict v ≡ Err Ended) ⊎ (of_verdict v ≡ Err (Mail UnexpectedEof)) → v ≡ Err UnexpectedEof
verdict_ended (Ok items) (inl is) = absurd (cc is)
verdict_ended (Err error) (inl is) = absurd (cc is)
verdict_ended v (inr is) = verdict_back v UnexpectedEof is

pub answer_verdict : (v : Verdict) → IsAnswer (outcome_status (of_verdict v)) → IsVerdict v
answer_verdict v answer = ((λ is. not_memory (of_verdict v) answer (ap of_verdict is)), (λ is. not_fault (of_verdict v) answer (ap of_verdict is)))

-- where nothing was taken, it was nothing
lost_none : (mid now : Option (List ℕ)) (P : List ℕ → Type 0) (N E : Type 0) → Lost mid now P → (N → (now ≡ mid) × E) → Lost mid now (λ mail. (N → (mail ≡ []) × E) × P mail)
lost_none None now P N E l f = tt
lost_none (Some text) now P N E (bytes, rest, whole, is, p) f = (bytes, rest, whole, is, ((λ n. let same = f n in (nothing (sym is ∙ same.0), same.1)), p))
  where
    nothing : Some rest ≡ Some text → bytes ≡ []
    nothing same =
        let rests : rest ≡ text = cc same in
        let lengths = ap length rests in
        let all = ap length whole in
        nil_from_length bytes (omega (arith, lengths, all, length-append bytes rest))

module _ (family : Family) (suite : SuiteName) (budget : ℕ) (left mid now : Option (List ℕ)) (faults faults_mid faults_now : ℕ) (seed info : List ℕ) (v : Verdict) (head : Lost left mid (λ t. IsHead t seed info)) (calm : faults_mid ≡ faults)
    (opened : IsOpened (parameters suite.set) family (kdf_algorithm suite.kdf) (aead_algorithm suite.aead) (aead_open suite.aead) seed info budget mid now faults_mid faults_now v) where
  open_ends : (left' : Option (List ℕ)) → Lost left' mid (λ t. IsHead t seed info) → IfSome left' (λ text. IsAnswer (outcome_status (of_verdict v)) → EndsWith family (Open suite budget) text (of_verdict v))
  open_ends None l = tt
  open_ends (Some text) (bytes, rest, whole, is, head_is) = λ answer.
      let told = subst (λ (o : Option (List ℕ)). IfSome o (λ t. IsVerdict v → OpensByKey (parameters suite.set) family (kdf_algorithm suite.kdf) (aead_algorithm suite.aead) (aead_open suite.aead) seed info t budget v)) is opened.verdict in
      ends_verdict family (Open suite budget) text v (bytes, seed, info, rest, v, whole, head_is, told (answer_verdict v answer), refl)

  pub came_open : CameTo family (Open suite budget) left now faults faults_now (of_verdict v)
  came_open = record {
    ends_with = open_ends left head;
    took = Lost_then left mid now (λ t. IsHead t seed info) (λ mail. (key_of (parameters suite.set) family seed ≡ None → (mail ≡ []) × ((v ≡ Err XofExhausted) ⊎ (v ≡ Err NoMemory))) × IsTaken budget v mail)
        (Takes family (Open suite budget) (of_verdict v)) head (lost_none mid now (IsTaken budget v) _ _ opened.taken opened.no_key)
        (λ a mail is q. takes_verdict family (Open suite budget) v (a ++ mail) (a, mail, seed, info, v, refl, is, q.0, q.1, refl));
    at_end = λ is. ended_then left mid now (λ t. IsHead t seed info) head (opened.at_end (verdict_ended v is));
    read_fault = λ is. subst (λ (n : ℕ). Rose n faults_now) calm (opened.read_fault (verdict_back v ReadFault is));
    no_fault = λ not. opened.no_fault (λ is. not (ap of_verdict is)) ∙ calm;
  }

-- what a key comes to is no other error
key_error : (o : Option KeyRecord) (e : MailError) → e ≢ XofExhausted → key_verdict o ≢ Err e
key_error None e other is = other (cc is)
key_error (Some key) e other is = cc is

module _ (family : Family) (set : SetName) (left now : Option (List ℕ)) (faults faults_now : ℕ) (seed : List ℕ) (v : Verdict) (line : Lost left now (λ t. IsSeedLine t seed)) (calm : faults_now ≡ faults)
    (said : (v ≡ key_verdict (key_of (parameters set) family seed)) ⊎ (v ≡ Err NoMemory)) where
  key_not : (e : MailError) → e ≢ XofExhausted → e ≢ NoMemory → v ≢ Err e
  key_not e other more is = elim said [
    | inl same ↦ key_error (key_of (parameters set) family seed) e other (sym same ∙ is)
    | inr memory ↦ more (let both = sym is ∙ memory in cc both)
  ]

  key_same : IsVerdict v → v ≡ key_verdict (key_of (parameters set) family seed)
  key_same is = elim said [ inl same ↦ same | inr memory ↦ absurd (is.0 memory) ]

  key_ends : (left' : Option (List ℕ)) → Lost left' now (λ t. IsSeedLine t seed) → IfSome left' (λ text. IsAnswer (outcome_status (of_verdict v)) → EndsWith family (Key set) text (of_verdict v))
  key_ends None l = tt
  key_ends (Some text) (bytes, rest, whole, is, line_is) = λ answer.
      ends_verdict family (Key set) text v (bytes, seed, rest, whole, line_is, ap of_verdict (key_same (answer_verdict v answer)))

  pub came_key : CameTo family (Key set) left now faults faults_now (of_verdict v)
  came_key = record {
    ends_with = key_ends left line;
    took = Lost_weaker left now (λ t. IsSeedLine t seed) (Takes family (Key set) (of_verdict v)) line (λ bytes is. takes_verdict family (Key set) v bytes (seed, is, elim said [ inl same ↦ inl (ap of_verdict same) | inr memory ↦ inr (ap of_verdict memory) ]));
    at_end = λ is. absurd (key_not UnexpectedEof (λ e. cc e) (λ e. cc e) (verdict_ended v is));
    read_fault = λ is. absurd (key_not ReadFault (λ e. cc e) (λ e. cc e) (verdict_back v ReadFault is));
    no_fault = λ not. calm;
  }

-- ---- nothing is read

-- where a source lost nothing, it lost this
lost_nothing : (left : Option (List ℕ)) (P : List ℕ → Type 0) → P [] → Lost left left P
lost_nothing None P p = tt
lost_nothing (Some text) P p = ([], text, refl, refl, p)

module _ (family : Family) (count : ℕ) (v : Verdict) (comes : (v ≡ Err NoMemory) ⊎ Generates family count v) where
  gen_no_fault : v ≢ Err ReadFault
  gen_no_fault is = elim comes [
    | inl memory ↦ (let both = sym is ∙ memory in cc both)
    | inr told ↦ (told_verdict family count v told).1 is
  ]

  gen_ends : (left : Option (List ℕ)) → IfSome left (λ text. IsAnswer (outcome_status (of_verdict v)) → EndsWith family (Gen count) text (of_verdict v))
  gen_ends None = tt
  gen_ends (Some text) = λ answer. elim comes [
    | inl memory ↦ absurd ((answer_verdict v answer).0 memory)
    | inr told ↦ ends_verdict family (Gen count) text v (v, told, refl)
  ]

  pub came_gen : (left : Option (List ℕ)) (faults : ℕ) → CameTo family (Gen count) left left faults faults (of_verdict v)
  came_gen left faults = record {
    ends_with = gen_ends left;
    took = lost_nothing left (Takes family (Gen count) (of_verdict v)) (takes_verdict family (Gen count) v [] (refl, (λ is. gen_no_fault (verdict_back v ReadFault is))));
    at_end = λ never. absurd never;
    read_fault = λ is. absurd (gen_no_fault (verdict_back v ReadFault is));
    no_fault = λ not. refl;
  }

  -- and so its run never ends with the status of such a fault
  pub gen_status : {W : Type 0} (got : W → Option (List ℕ)) (sink_faults : W → ℕ) (plan : W → List ℕ) (before now : W) (result : ℕ) (output : List ℕ)
      → IsTold got sink_faults plan before now result (outcome_status (of_verdict v)) output → result ≢ 4
  gen_status got sink_faults plan before now result output told four = elim told [
    | inl all ↦ elim comes [
      | inl memory ↦ (let status = ap (λ (w : Verdict). outcome_status (of_verdict w)) memory in let both = sym four ∙ (all.0 ∙ status) in absurd (cc both))
      | inr made ↦ not_four v (told_verdict family count v made) (sym all.0 ∙ four)
    ]
    | inr part ↦ (let both = sym four ∙ part.0 in absurd (cc both))
  ]
    where
      not_four : (w : Verdict) → IsVerdict w → outcome_status (of_verdict w) ≡ 4 → ⊥
      not_four (Ok items) is e = cc e
      not_four (Err NoMemory) is e = is.0 refl
      not_four (Err ReadFault) is e = is.1 refl
      not_four (Err error) is e = cc e
