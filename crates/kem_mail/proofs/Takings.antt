-- What was taken of a source for the stanzas of a mail.
use Rattle.std.proofs.Common.{◌≡◌, ◌≢◌, ℕ, ◌+◌, ◌<◌, ◌≤◌, List, [], ◌∷◌, ◌++◌, length, Option, Some, None, refl, sym, ap, subst, ◌∙◌, append_assoc, ◌⊎◌, inl, inr, arith}
use Rattle.std.specs.Prelude.{IfErr, IfSome, Result, Ok, Err, codes}
use Rattle.std.specs.List.{flat_map, AllByRecursion}
use Rattle.std.proofs.lemmas.Bool.{cases_lt}
use Rattle.std.proofs.lemmas.List.{append-nil, length-append}
use Rattle.std.proofs.lemmas.List.Concat.{flat_map-append}
use Rattle.age_format.specs.Stanza.{Stanza, IsStanza, IsFront, spelling}
use Rattle.age_format.specs.Front.{BeginsNone, IsMalformed}
use Rattle.age_format.specs.Reading.{IsDone, NoneDone, HasNoDone, Reads, Reading, Before_done, Invalid_data, Unexpected_eof, Too_much}
use Rattle.age_format.specs.Receiving.{Held, Took, Receives, fresh}
use Rattle.age_format.specs.declared.error.PhaseError.{PhaseError}
use Rattle.age_format.specs.declared.error.PhaseError.TheVariants.{NoMemory as PhaseNoMemory, WriteFault as PhaseWriteFault, ReadFault as PhaseReadFault, InvalidData as PhaseInvalidData, UnexpectedEof as PhaseUnexpectedEof, TooMuch as PhaseTooMuch, UnexpectedReply as PhaseUnexpectedReply}
use Rattle.age_format.proofs.Stanzas.{the_same_stanza}
use Rattle.age_format.proofs.Dones.{none_done-push}
use Rattle.age_format.proofs.Receipts.{front_begins_none, receives_none, receives_both, receives_unpaid, reads_done, reads_invalid, reads_ended, reads_spent}
use Rattle.kem_mail.specs.Taken.{Lost, IsShortBehindDone, StoppedBy}
use Rattle.kem_mail.specs.private.Causes.{ComesOf}
use Rattle.kem_mail.specs.private.Opening.{IsRead, IsRefusedFor, ReadTaken}
use Rattle.kem_mail.specs.declared.error.MailError.{MailError}
use Rattle.kem_mail.specs.declared.error.MailError.TheVariants.{NoMemory, ReadFault, UnexpectedEof}

-- the spellings of a stanza and of those after it
cons_text : (s : Stanza) (ss : List Stanza) (more : List ℕ) → flat_map spelling (s ∷ ss) ++ more ≡ spelling s ++ (flat_map spelling ss ++ more)
cons_text s ss more = append_assoc (spelling s) (flat_map spelling ss) more

-- ---- behind a first `done`

-- what stands behind a first `done` is what was held behind it
behind_same : (xs ys : List Stanza) (last final : Stanza) (held behind : List ℕ) → AllByRecursion IsStanza xs → AllByRecursion IsStanza ys → NoneDone xs → NoneDone ys
    → IsStanza last → IsStanza final → IsDone last → IsDone final → flat_map spelling xs ++ (spelling last ++ held) ≡ flat_map spelling ys ++ (spelling final ++ behind) → held ≡ behind
behind_same [] [] last final held behind h k n m hl hf dl df e = (the_same_stanza last final held behind hl hf e).1
behind_same [] (y ∷ ys) last final held behind h k n m hl hf dl df e =
    let first = the_same_stanza last y held (flat_map spelling ys ++ (spelling final ++ behind)) hl k.0 (e ∙ cons_text y ys (spelling final ++ behind)) in
    absurd (m.0 (subst IsDone first.0 dl))
behind_same (x ∷ xs) [] last final held behind h k n m hl hf dl df e =
    let first = the_same_stanza final x behind (flat_map spelling xs ++ (spelling last ++ held)) hf h.0 (sym e ∙ cons_text x xs (spelling last ++ held)) in
    absurd (n.0 (subst IsDone first.0 df))
behind_same (x ∷ xs) (y ∷ ys) last final held behind h k n m hl hf dl df e =
    let first = the_same_stanza x y (flat_map spelling xs ++ (spelling last ++ held)) (flat_map spelling ys ++ (spelling final ++ behind)) h.0 k.0 (sym (cons_text x xs (spelling last ++ held)) ∙ (e ∙ cons_text y ys (spelling final ++ behind))) in
    behind_same xs ys last final held behind h.1 k.1 n.1 m.1 hl hf dl df first.1

-- a first stanza of what is held, with so many bytes behind it
record Behind (held behind : List ℕ) : Type 0 where
  first : Stanza
  rest : List ℕ
  is_stanza : IsStanza first
  whole : held ≡ spelling first ++ rest
  longer : length behind ≤ length rest

-- a first `done` behind stanzas that are none lies in what is held
done_held : (xs ys : List Stanza) (final : Stanza) (held behind : List ℕ) → AllByRecursion IsStanza xs → AllByRecursion IsStanza ys → NoneDone xs → IsStanza final → IsDone final
    → flat_map spelling xs ++ held ≡ flat_map spelling ys ++ (spelling final ++ behind) → Behind held behind
done_held [] [] final held behind h k n hf df e = record { first = final; rest = behind; is_stanza = hf; whole = e; longer = omega arith }
done_held [] (y ∷ ys) final held behind h k n hf df e = record {
  first = y;
  rest = flat_map spelling ys ++ (spelling final ++ behind);
  is_stanza = k.0;
  whole = e ∙ cons_text y ys (spelling final ++ behind);
  longer = omega (arith, length-append (flat_map spelling ys) (spelling final ++ behind), length-append (spelling final) behind);
}
done_held (x ∷ xs) [] final held behind h k n hf df e =
    let first = the_same_stanza final x behind (flat_map spelling xs ++ held) hf h.0 (sym e ∙ cons_text x xs held) in
    absurd (n.0 (subst IsDone first.0 df))
done_held (x ∷ xs) (y ∷ ys) final held behind h k n hf df e =
    let first = the_same_stanza x y (flat_map spelling xs ++ held) (flat_map spelling ys ++ (spelling final ++ behind)) h.0 k.0 (sym (cons_text x xs held) ∙ (e ∙ cons_text y ys (spelling final ++ behind))) in
    done_held xs ys final held behind h.1 k.1 n.1 hf df first.1

-- what stands behind a stanza at the front of what is held is short
abbrev pub ShortBehind : List ℕ → Type 0
ShortBehind held = (stanza : Stanza) (rest : List ℕ) → IsStanza stanza → held ≡ spelling stanza ++ rest → length rest ≤ 4095

short_behind : (held : List ℕ) → length held ≤ 4095 → ShortBehind held
short_behind held short stanza rest is e = let len = ap length e in omega (arith, short, len, length-append (spelling stanza) rest)

-- where what was held is short, and what begins no stanza is followed by little, all is short
module _ (before now : Held) (text : List ℕ) (m : Option (List ℕ)) (stanzas : List Stanza) (r : Receives before now (Some text) m stanzas) (unread : (IsFront before.bytes → ⊥) → m ≡ Some text) where
  same_some : (xs ys : List ℕ) → Some xs ≡ Some ys → xs ≡ ys
  same_some xs ys e = cc

  -- nothing was read behind a whole stanza
  none_taken : (s : Stanza) (more : List ℕ) → IsStanza s → before.bytes ≡ spelling s ++ more → length r.taken ≡ 0
  none_taken s more is e =
      let same = unread (λ front. front_begins_none before.bytes front s more is e) in
      let rest : r.told.0 ≡ text = same_some r.told.0 text (sym r.told.2 ∙ same) in
      let len : length text ≡ length r.taken + length r.told.0 = ap length r.told.1 ∙ length-append r.taken r.told.0 in
      let count = ap length rest in
      omega (arith, len, count)

  short_after : length before.bytes ≤ 4095 → (BeginsNone before.bytes → length now.bytes ≤ 4095) → length now.bytes ≤ 4095
  short_after short behind = elim (cases_lt 4095 (length now.bytes)) [
    | inl long ↦
        let none : BeginsNone before.bytes = λ s more is e.
        let nothing = none_taken s more is e in
        let len : length before.bytes + length r.taken ≡ length (flat_map spelling stanzas) + length now.bytes = sym (length-append before.bytes r.taken) ∙ (ap length r.whole ∙ length-append (flat_map spelling stanzas) now.bytes) in
        omega (arith, nothing, len, short, long) in
        behind none
    | inr le ↦ le
  ]

  short_refused : length before.bytes ≤ 4095 → (BeginsNone before.bytes → ShortBehind now.bytes) → ShortBehind now.bytes
  short_refused short behind stanza rest is e = elim (cases_lt 4095 (length rest)) [
    | inl long ↦
        let none : BeginsNone before.bytes = λ s more iss es.
        let nothing = none_taken s more iss es in
        let len : length before.bytes + length r.taken ≡ length (flat_map spelling stanzas) + length now.bytes = sym (length-append before.bytes r.taken) ∙ (ap length r.whole ∙ length-append (flat_map spelling stanzas) now.bytes) in
        let held : length now.bytes ≡ length (spelling stanza) + length rest = ap length e ∙ length-append (spelling stanza) rest in
        omega (arith, nothing, len, held, short, long) in
        behind none stanza rest is e
    | inr le ↦ le
  ]

-- few bytes are held behind a stanza that had to be read
pub few_behind : {S : Type 0} (before now : Held) (old new : S) (l m : Option (List ℕ)) (s : Stanza) → Receives before now l m (s ∷ []) → ((new ≡ old) × (now.budget ≡ before.budget)) ⊎ (length now.bytes ≤ 4095)
    → BeginsNone before.bytes → length now.bytes ≤ 4095
few_behind before now old new l m s r (inl unread) none = absurd (none s now.bytes r.each.0 (receives_unpaid before now l m s r unread.1))
few_behind before now old new l m s r (inr few) none = few

-- ---- while stanzas are given

-- no `done` was given yet, and where the source tells its bytes few are held
pub record Given (budget : ℕ) (now : Held) (l m : Option (List ℕ)) (stanzas : List Stanza) : Type 0 where
  pub received : Receives (fresh budget) now l m stanzas
  pub none_done : NoneDone stanzas
  pub short : IfSome l (λ _. length now.bytes ≤ 4095)

nothing_held : (l : Option (List ℕ)) → IfSome l (λ _. length (fresh 0).bytes ≤ 4095)
nothing_held None = tt
nothing_held (Some text) = omega arith

-- nothing was given yet
pub given_none : (budget : ℕ) (l : Option (List ℕ)) → Given budget (fresh budget) l l []
given_none budget l = record { received = receives_none (fresh budget) l; none_done = tt; short = nothing_held l }

module _ (budget : ℕ) (now next : Held) (m n : Option (List ℕ)) (stanzas : List Stanza) (unread : (IsFront now.bytes → ⊥) → n ≡ m) where
  still_short : (l : Option (List ℕ)) (ss : List Stanza) → Given budget now l m stanzas → Receives now next m n ss → (BeginsNone now.bytes → length next.bytes ≤ 4095) → IfSome l (λ _. length next.bytes ≤ 4095)
  still_short None ss given r behind = tt
  still_short (Some text) ss given r behind =
      let told = given.received.told in
      let left : m ≡ Some told.0 = told.2 in
      let more : Receives now next (Some told.0) n ss = subst (λ (o : Option (List ℕ)). Receives now next o n ss) left r in
      short_after now next told.0 n ss more (λ none. unread none ∙ left) given.short behind

  still_short_behind : (l : Option (List ℕ)) → Given budget now l m stanzas → Receives now next m n [] → (BeginsNone now.bytes → ShortBehind next.bytes) → IfSome l (λ _. ShortBehind next.bytes)
  still_short_behind None given r behind = tt
  still_short_behind (Some text) given r behind =
      let told = given.received.told in
      let left : m ≡ Some told.0 = told.2 in
      let more : Receives now next (Some told.0) n [] = subst (λ (o : Option (List ℕ)). Receives now next o n []) left r in
      short_refused now next told.0 n [] more (λ none. unread none ∙ left) given.short behind

  -- one stanza more
  pub given_more : (l : Option (List ℕ)) (s : Stanza) → Given budget now l m stanzas → Receives now next m n (s ∷ []) → (BeginsNone now.bytes → length next.bytes ≤ 4095) → s.tag ≢ codes "done"
      → Given budget next l n (stanzas ++ s ∷ [])
  given_more l s given r behind other = record {
    received = receives_both (fresh budget) now next l m n stanzas (s ∷ []) given.received r;
    none_done = none_done-push stanzas s given.none_done other;
    short = still_short l (s ∷ []) given r behind;
  }

-- ---- what was taken

lost : {P : List ℕ → Type 0} (text bytes : List ℕ) (m : Option (List ℕ)) → Took (Some text) m bytes → P bytes → Lost (Some text) m P
lost text bytes m told p = (bytes, told.0, told.1, told.2, p)

-- at most the budget was taken
within_budget : (budget : ℕ) (now : Held) (l m : Option (List ℕ)) (stanzas : List Stanza) (r : Receives (fresh budget) now l m stanzas) → length r.taken ≤ budget
within_budget budget now l m stanzas r = let p = r.paid in omega (arith, p)

behind_held : (budget : ℕ) (now : Held) (l m : Option (List ℕ)) (stanzas : List Stanza) (r : Receives (fresh budget) now l m stanzas) → NoneDone stanzas → ShortBehind now.bytes → IsShortBehindDone r.taken
behind_held budget now l m stanzas r none short ss final behind e each others is done =
    let held = done_held stanzas ss final now.bytes behind r.each each none is done (sym r.whole ∙ e) in
    let few = short held.first held.rest held.is_stanza held.whole in
    let le = held.longer in
    omega (arith, few, le)

-- where memory ran out behind a stanza
pub taken_unheld : {X : Type 0} (budget : ℕ) (now : Held) (l m : Option (List ℕ)) (stanzas : List Stanza) (result : Result X MailError) → result ≡ Err NoMemory → Given budget now l m stanzas → Lost l m (ReadTaken budget result)
taken_unheld budget now None m stanzas result is given = tt
taken_unheld budget now (Some text) m stanzas result is given =
    let r = given.received in
    lost text r.taken m r.told (record {
      within = within_budget budget now (Some text) m stanzas r;
      behind = behind_held budget now (Some text) m stanzas r given.none_done (short_behind now.bytes given.short);
      stopped = rw is tt;
    })

-- ---- where a phase refused

-- what a refusal says of a reader and its source
pub record Refused (phase : PhaseError) (now : Held) (l m : Option (List ℕ)) : Type 0 where
  pub read_fault : phase ≡ PhaseReadFault → IsFront now.bytes × (0 < now.budget)
  pub invalid_data : phase ≡ PhaseInvalidData → IsMalformed now.bytes
  pub unexpected_eof : phase ≡ PhaseUnexpectedEof → IsFront now.bytes × (0 < now.budget) × IfSome l (λ _. m ≡ Some [])
  pub too_much : phase ≡ PhaseTooMuch → IsFront now.bytes × (now.budget ≡ 0)

module _ (budget : ℕ) (now : Held) (l m : Option (List ℕ)) (stanzas : List Stanza) (r : Receives (fresh budget) now l m stanzas) (none_done : NoneDone stanzas) where
  no_done : BeginsNone now.bytes → HasNoDone r.taken now.bytes
  no_done none = record { stanzas = stanzas; splits = record { whole = r.whole; each = r.each; longest = none }; none_done = none_done }

  stopped_by : (phase : PhaseError) (error : MailError) (mid : Option (List ℕ)) → ComesOf phase error → Refused phase now mid m → StoppedBy (Err error) budget r.taken
  stopped_by PhaseNoMemory error mid is refused = rw is tt
  stopped_by PhaseReadFault error mid is refused =
      let said = refused.read_fault refl in
      let p = r.paid in
      rw is ((now.bytes, no_done (front_begins_none now.bytes said.0), said.0), omega (arith, p, said.1))
  stopped_by PhaseInvalidData error mid is refused =
      let bad = refused.invalid_data refl in
      rw is (now.bytes, no_done bad.begins_none, bad.no_front)
  stopped_by PhaseUnexpectedEof error mid is refused =
      let said = refused.unexpected_eof refl in
      let p = r.paid in
      rw is ((now.bytes, no_done (front_begins_none now.bytes said.0), said.0), omega (arith, p, said.1))
  stopped_by PhaseTooMuch error mid is refused =
      let said = refused.too_much refl in
      let p = r.paid in
      rw is ((now.bytes, no_done (front_begins_none now.bytes said.0), said.0), omega (arith, p, said.1))
  stopped_by PhaseWriteFault error mid is refused = absurd is
  stopped_by (PhaseUnexpectedReply tag) error mid is refused = absurd is

joined : (budget : ℕ) (now next : Held) (l m n : Option (List ℕ)) (stanzas : List Stanza) → Receives (fresh budget) now l m stanzas → Receives now next m n [] → Receives (fresh budget) next l n stanzas
joined budget now next l m n stanzas r kept = subst (λ (ss : List Stanza). Receives (fresh budget) next l n ss) (append-nil stanzas) (receives_both (fresh budget) now next l m n stanzas [] r kept)

pub taken_refused : (X : Type 0) (budget : ℕ) (now next : Held) (l m n : Option (List ℕ)) (stanzas : List Stanza) (phase : PhaseError) (error : MailError) → ComesOf phase error
    → Given budget now l m stanzas → Receives now next m n [] → ((IsFront now.bytes → ⊥) → n ≡ m) → (BeginsNone now.bytes → ShortBehind next.bytes) → Refused phase next m n → Lost l n (ReadTaken {X = X} budget (Err error))
taken_refused X budget now next None m n stanzas phase error is given kept unread behind refused = tt
taken_refused X budget now next (Some text) m n stanzas phase error is given kept unread behind refused =
    let r = joined budget now next (Some text) m n stanzas given.received kept in
    lost text r.taken n r.told (record {
      within = within_budget budget next (Some text) n stanzas r;
      behind = behind_held budget next (Some text) n stanzas r given.none_done (still_short_behind budget now next m n stanzas unread (Some text) given kept behind);
      stopped = stopped_by budget next (Some text) n stanzas r given.none_done phase error m is refused;
    })

-- what a source that tells its bytes does at its end
at_left : {P : Type 0} (l m : Option (List ℕ)) (text taken : List ℕ) → Took (Some text) m taken → IfSome m (λ _. P) → P
at_left {P} l m text taken told p = subst (λ (o : Option (List ℕ)). IfSome o (λ _. P)) told.2 p

from_fresh : (text : List ℕ) (budget : ℕ) (reading : Reading) → Reads text (budget + 0) reading → Reads text budget reading
from_fresh text budget reading h = let same : budget + 0 ≡ budget = omega arith in subst (λ (n : ℕ). Reads text n reading) same h

module _ (budget : ℕ) (next : Held) (m n : Option (List ℕ)) (stanzas : List Stanza) where
  refused_reads : (text : List ℕ) (phase : PhaseError) → Receives (fresh budget) next (Some text) n stanzas → NoneDone stanzas
      → (phase ≡ PhaseUnexpectedEof → n ≡ Some []) → Refused phase next m n → IsRefusedFor phase text budget
  refused_reads text PhaseNoMemory r none ended refused = tt
  refused_reads text PhaseWriteFault r none ended refused = tt
  refused_reads text (PhaseUnexpectedReply tag) r none ended refused = tt
  refused_reads text PhaseReadFault r none ended refused = tt
  refused_reads text PhaseInvalidData r none ended refused = from_fresh text budget Invalid_data (reads_invalid (fresh budget) next text n stanzas r none (refused.invalid_data refl))
  refused_reads text PhaseUnexpectedEof r none ended refused =
      let said = refused.unexpected_eof refl in
      from_fresh text budget Unexpected_eof (reads_ended (fresh budget) next text n stanzas r none said.0 said.1 (ended refl))
  refused_reads text PhaseTooMuch r none ended refused =
      let said = refused.too_much refl in
      from_fresh text budget Too_much (reads_spent (fresh budget) next text n stanzas r none said.0 said.1)

pub read_refused : {X : Type 0} (view : X → List Stanza) (budget : ℕ) (now next : Held) (l m n : Option (List ℕ)) (stanzas : List Stanza) (phase : PhaseError) (error : MailError) → ComesOf phase error
    → Given budget now l m stanzas → Receives now next m n [] → Refused phase next m n → IfSome l (λ text. IsRead view text budget (Err error))
read_refused view budget now next None m n stanzas phase error is given kept refused = tt
read_refused view budget now next (Some text) m n stanzas phase error is given kept refused =
    let r = joined budget now next (Some text) m n stanzas given.received kept in (
      phase,
      is,
      refused_reads budget next m n stanzas text phase r given.none_done
          (λ eof. at_left (Some text) m text given.received.taken given.received.told (refused.unexpected_eof eof).2) refused,
    )

pub read_unheld : {X : Type 0} (view : X → List Stanza) (budget : ℕ) (l : Option (List ℕ)) (result : Result X MailError) → result ≡ Err NoMemory → IfSome l (λ text. IsRead view text budget result)
read_unheld view budget None result is = tt
read_unheld view budget (Some text) result is = rw is (PhaseNoMemory, refl, tt)

pub refused_unheld : {X : Type 0} (result : Result X MailError) → result ≡ Err NoMemory → IfErr result (λ e. (phase : PhaseError) × ComesOf phase e)
refused_unheld result is = rw is (PhaseNoMemory, refl)

-- a refusal for the end is the phase's
pub phase_ended : (phase : PhaseError) (error : MailError) → ComesOf phase error → error ≡ UnexpectedEof → phase ≡ PhaseUnexpectedEof
phase_ended PhaseNoMemory error is e = absurd (cc)
phase_ended PhaseReadFault error is e = absurd (cc)
phase_ended PhaseInvalidData error is e = absurd (cc)
phase_ended PhaseUnexpectedEof error is e = refl
phase_ended PhaseTooMuch error is e = absurd (cc)
phase_ended PhaseWriteFault error is e = absurd is
phase_ended (PhaseUnexpectedReply tag) error is e = absurd is

-- a refusal for a fault is the phase's
pub phase_fault : (phase : PhaseError) (error : MailError) → ComesOf phase error → error ≡ ReadFault → phase ≡ PhaseReadFault
phase_fault PhaseNoMemory error is e = absurd (cc)
phase_fault PhaseReadFault error is e = refl
phase_fault PhaseInvalidData error is e = absurd (cc)
phase_fault PhaseUnexpectedEof error is e = absurd (cc)
phase_fault PhaseTooMuch error is e = absurd (cc)
phase_fault PhaseWriteFault error is e = absurd is
phase_fault (PhaseUnexpectedReply tag) error is e = absurd is

-- and the other way round
pub fault_comes : (phase : PhaseError) (error : MailError) → ComesOf phase error → phase ≡ PhaseReadFault → error ≡ ReadFault
fault_comes phase error is same = subst (λ (p : PhaseError). ComesOf p error) same is

pub left_ended : (budget : ℕ) (now : Held) (l m n : Option (List ℕ)) (stanzas : List Stanza) → Given budget now l m stanzas → IfSome m (λ _. n ≡ Some []) → IfSome l (λ _. n ≡ Some [])
left_ended budget now None m n stanzas given ended = tt
left_ended budget now (Some text) m n stanzas given ended = at_left (Some text) m text given.received.taken given.received.told ended

-- ---- where a `done` was given

pub read_done : (budget : ℕ) (now next : Held) (l m n : Option (List ℕ)) (stanzas : List Stanza) (last : Stanza) → Given budget now l m stanzas → Receives now next m n (last ∷ []) → IsDone last
    → IfSome l (λ text. Reads text budget (Before_done stanzas))
read_done budget now next None m n stanzas last given r done = tt
read_done budget now next (Some text) m n stanzas last given r done =
    from_fresh text budget (Before_done stanzas) (reads_done (fresh budget) next text n stanzas last (receives_both (fresh budget) now next (Some text) m n stanzas (last ∷ []) given.received r) given.none_done done)

parts : (xs : List Stanza) (last : Stanza) → AllByRecursion IsStanza (xs ++ last ∷ []) → AllByRecursion IsStanza xs × IsStanza last
parts [] last h = (tt, h.0)
parts (x ∷ xs) last h = let others = parts xs last h.1 in ((h.0, others.0), others.1)

last_apart : (stanzas : List Stanza) (last : Stanza) (rest : List ℕ) → flat_map spelling (stanzas ++ last ∷ []) ++ rest ≡ flat_map spelling stanzas ++ (spelling last ++ rest)
last_apart stanzas last rest =
    ap (λ (t : List ℕ). t ++ rest) (flat_map-append spelling stanzas (last ∷ []) ∙ ap (λ (t : List ℕ). flat_map spelling stanzas ++ t) (append-nil (spelling last)))
    ∙ append_assoc (flat_map spelling stanzas) (spelling last) rest

pub taken_done : {X : Type 0} (budget : ℕ) (now next : Held) (l m n : Option (List ℕ)) (stanzas : List Stanza) (last : Stanza) (x : X) → Given budget now l m stanzas → Receives now next m n (last ∷ [])
    → (BeginsNone now.bytes → length next.bytes ≤ 4095) → ((IsFront now.bytes → ⊥) → n ≡ m) → IsDone last → Lost l n (ReadTaken {X = X} budget (Ok x))
taken_done budget now next None m n stanzas last x given r behind unread done = tt
taken_done budget now next (Some text) m n stanzas last x given r behind unread done =
    let all = receives_both (fresh budget) now next (Some text) m n stanzas (last ∷ []) given.received r in
    let each = parts stanzas last all.each in
    let whole : all.taken ≡ flat_map spelling stanzas ++ (spelling last ++ next.bytes) = all.whole ∙ last_apart stanzas last next.bytes in
    let short = still_short budget now next m n stanzas unread (Some text) (last ∷ []) given r behind in
    lost text all.taken n all.told (record {
      within = within_budget budget next (Some text) n (stanzas ++ last ∷ []) all;
      behind = λ ss final more e others none is final_done.
          let same = behind_same stanzas ss last final next.bytes more each.0 others given.none_done none each.1 is done final_done (sym whole ∙ e) in
          subst (λ (t : List ℕ). length t ≤ 4095) same short;
      stopped = (stanzas, record { last = last; rest = next.bytes; whole = whole; each = each.0; none_done = given.none_done; last_is_stanza = each.1; last_is_done = done });
    })
