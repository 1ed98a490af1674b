-- What receiving comes to: fronts and spellings of bytes that go on, runs of receiving, and readings.
use Rattle.std.proofs.Common.{◌≡◌, ℕ, ◌+◌, ◌<◌, ◌≤◌, List, [], ◌∷◌, ◌++◌, length, take, Option, Some, None, refl, sym, ap, subst, ◌∙◌, append_assoc, ◌⊎◌, inl, inr, arith}
use Rattle.std.specs.List.{flat_map, AllByRecursion}
use Rattle.std.proofs.Math.Seq.{take-append-add}
use Rattle.std.proofs.lemmas.Bool.{cases_lt}
use Rattle.std.proofs.lemmas.List.{append-nil, length-append, nil_from_length, take_all}
use Rattle.std.proofs.lemmas.List.Concat.{flat_map-append}
use Rattle.age_format.specs.declared.scan.Place.TheVariants.{Start}
use Rattle.age_format.specs.declared.scan.Step.TheVariants.{To}
use Rattle.age_format.specs.Stanza.{Stanza, IsStanza, IsFront, spelling}
use Rattle.age_format.specs.Front.{BeginsNone, IsMalformed}
use Rattle.age_format.specs.Reading.{IsDone, NoneDone, HasNoDone, StandsBeforeDone, Before_done, Invalid_data, Unexpected_eof, Too_much, Reads}
use Rattle.age_format.specs.Receiving.{Held, Took, Receives}
use Rattle.age_format.specs.private.Scan.{scan, At, Whole}
use Rattle.age_format.proofs.Scans.{scan_spelling}
use Rattle.age_format.proofs.Stanzas.{the_same_stanza as same_stanza}
use Rattle.age_format.proofs.Fronts.{front_seen}

-- ---- fronts and spellings

-- no spelling begins a front
pub front_begins_none : (text : List ℕ) → IsFront text → BeginsNone text
front_begins_none text front s more is same =
    let seen = front_seen text (scan (To Start) text) refl front in
    let both : At seen.0 ≡ Whole more = sym seen.1 ∙ (ap (scan (To Start)) same ∙ scan_spelling s more is) in
    absurd cc

-- of two beginnings of one text the shorter begins the longer
split_longer : (a b c d : List ℕ) → a ++ b ≡ c ++ d → length c ≤ length a → (x : List ℕ) × (a ≡ c ++ x) × (d ≡ x ++ b)
split_longer a b [] d e le = (a, refl, sym e)
split_longer [] b (y ∷ ys) d e le = absurd (omega arith)
split_longer (x ∷ xs) b (y ∷ ys) d e le =
    let heads : x ≡ y = cc in
    let tails : xs ++ b ≡ ys ++ d = cc in
    let more = split_longer xs b ys d tails (omega arith) in
    (more.0, cc (heads, more.1), more.2)

-- a spelling that begins a front and more is longer than the front
pub front_shorter : (front piece rest : List ℕ) (s : Stanza) → IsFront front → IsStanza s → front ++ piece ≡ spelling s ++ rest → length front < length (spelling s)
front_shorter front piece rest s is stanza e =
    elim (cases_lt (length front) (length (spelling s))) [
      | inl lt ↦ lt
      | inr ge ↦
          let cut = split_longer front piece (spelling s) rest e ge in
          absurd (front_begins_none front is s cut.0 stanza cut.1)
    ]

nil_right : (xs ys : List ℕ) → xs ++ ys ≡ [] → ys ≡ []
nil_right [] ys e = e
nil_right (x ∷ xs) ys e = absurd cc

-- what a front begins with is a front
front_of : (text more : List ℕ) → IsFront (text ++ more) → IsFront text
front_of text more front =
    (front.0, more ++ front.1, front.2, (λ nil. front.3 (nil_right more front.1 nil)), front.4 ∙ append_assoc text more front.1)

-- what is malformed stays so, however it goes on
pub malformed_longer : (text more : List ℕ) → IsMalformed text → IsMalformed (text ++ more)
malformed_longer text more bad = record {
  no_front = λ front. bad.no_front (front_of text more front);
  begins_none = λ s rest stanza e.
      elim (cases_lt (length text) (length (spelling s))) [
        | inl lt ↦
            let cut = split_longer (spelling s) rest text more (sym e) (omega arith) in
            bad.no_front (s, cut.0, stanza, (λ nil. let len = ap length cut.1 in let none = ap length nil in omega (arith, lt, length-append text cut.0)), cut.1)
        | inr ge ↦
            let cut = split_longer text more (spelling s) rest e ge in
            bad.begins_none s cut.0 stanza cut.1
      ];
}

-- malformed bytes give no stanza, whatever follows them
pub malformed_gives_none : (before now : Held) (l m : Option (List ℕ)) (stanzas : List Stanza) → IsMalformed before.bytes → Receives before now l m stanzas → stanzas ≡ []
malformed_gives_none before now l m [] bad r = refl
malformed_gives_none before now l m (s ∷ ss) bad r =
    let longer = malformed_longer before.bytes r.taken bad in
    absurd (longer.begins_none s (flat_map spelling ss ++ now.bytes) r.each.0 (r.whole ∙ append_assoc (spelling s) (flat_map spelling ss) now.bytes))

-- where nothing was paid, they stay as they are
pub malformed_stays : (before now : Held) (l m : Option (List ℕ)) (stanzas : List Stanza) → IsMalformed before.bytes → Receives before now l m stanzas → now.budget ≡ before.budget → now.bytes ≡ before.bytes
malformed_stays before now l m stanzas bad r same =
    let none : r.taken ≡ [] = nil_from_length r.taken (let p = r.paid in omega (arith, p, same)) in
    let empty : flat_map spelling stanzas ≡ [] = ap (flat_map spelling) (malformed_gives_none before now l m stanzas bad r) in
    sym (rw (none, empty, append-nil before.bytes) at r.whole)

-- what is held is a front and a piece of at most 4096 bytes
abbrev pub EndsInPiece : List ℕ → Type 0
EndsInPiece now = (front : List ℕ) × (piece : List ℕ) × (now ≡ front ++ piece) × IsFront front × (length piece ≤ 4096)

-- so at most 4095 bytes stand behind a stanza
pub behind_piece : (now rest : List ℕ) (s : Stanza) → EndsInPiece now → IsStanza s → now ≡ spelling s ++ rest → length rest ≤ 4095
behind_piece now rest s last is e =
    let whole : last.0 ++ last.1 ≡ spelling s ++ rest = sym last.2 ∙ e in
    let lt = front_shorter last.0 last.1 rest s last.3 is whole in
    let sum : length last.0 + length last.1 ≡ length (spelling s) + length rest = sym (length-append last.0 last.1) ∙ (ap length whole ∙ length-append (spelling s) rest) in
    let piece = last.4 in
    omega (arith, lt, sum, piece)

-- at most 4095 bytes stand behind a stanza that wasn't held
abbrev pub FewBehind : List ℕ → List ℕ → Type 0
FewBehind before now = BeginsNone before → (stanza : Stanza) (rest : List ℕ) → IsStanza stanza → now ≡ spelling stanza ++ rest → length rest ≤ 4095

-- nothing was read, or what is held ends in such a piece
abbrev pub Last : {S : Type 0} → Held → Held → S → S → Type 0
Last before now source_before source_now = ((now ≡ before) × (source_now ≡ source_before)) ⊎ EndsInPiece now.bytes

pub behind_last : {S : Type 0} (before now : Held) (old new : S) (rest : List ℕ) (s : Stanza) → Last before now old new → IsStanza s → now.bytes ≡ spelling s ++ rest → BeginsNone before.bytes → length rest ≤ 4095
behind_last before now old new rest s (inl same) is e none = absurd (none s rest is (ap (λ (h : Held). h.bytes) (sym same.0) ∙ e))
behind_last before now old new rest s (inr last) is e none = behind_piece now.bytes rest s last is e

-- nothing was read, or at most 4095 bytes are held
abbrev pub Little : {S : Type 0} → Held → Held → S → S → Type 0
Little before now source_before source_now = ((source_now ≡ source_before) × (now.budget ≡ before.budget)) ⊎ (length now.bytes ≤ 4095)

pub little_behind : {S : Type 0} (before mid now : Held) (old new : S) (s : Stanza) → Last before mid old new → IsStanza s → mid.bytes ≡ spelling s ++ now.bytes → now.budget ≡ mid.budget → Little before now old new
little_behind before mid now old new s (inl same) is e paid = inl (same.1, paid ∙ ap (λ (h : Held). h.budget) same.0)
little_behind before mid now old new s (inr last) is e paid = inr (behind_piece mid.bytes now.bytes s last is e)

-- ---- runs of receiving

took_both : (a b c : Option (List ℕ)) (first second : List ℕ) → Took a b first → Took b c second → Took a c (first ++ second)
took_both None b c first second h k = tt
took_both (Some text) b c first second h k =
    let more = subst (λ (o : Option (List ℕ)). Took o c second) h.2 k in
    (more.0, h.1 ∙ (ap (λ (t : List ℕ). first ++ t) more.1 ∙ sym (append_assoc first second more.0)), more.2)

All-append : (ss ts : List Stanza) → AllByRecursion IsStanza ss → AllByRecursion IsStanza ts → AllByRecursion IsStanza (ss ++ ts)
All-append [] ts h k = k
All-append (s ∷ ss) ts h k = (h.0, All-append ss ts h.1 k)

pub receives_both : (a b c : Held) (l m n : Option (List ℕ)) (ss ts : List Stanza) → Receives a b l m ss → Receives b c m n ts → Receives a c l n (ss ++ ts)
receives_both a b c l m n ss ts h k = record {
  taken = h.taken ++ k.taken;
  whole =
      sym (append_assoc a.bytes h.taken k.taken)
      ∙ (ap (λ (t : List ℕ). t ++ k.taken) h.whole
      ∙ (append_assoc (flat_map spelling ss) b.bytes k.taken
      ∙ (ap (λ (t : List ℕ). flat_map spelling ss ++ t) k.whole
      ∙ (sym (append_assoc (flat_map spelling ss) (flat_map spelling ts) c.bytes)
      ∙ ap (λ (t : List ℕ). t ++ c.bytes) (sym (flat_map-append spelling ss ts))))));
  each = All-append ss ts h.each k.each;
  paid = let p = h.paid in let q = k.paid in omega (arith, length-append h.taken k.taken);
  told = took_both l m n h.taken k.taken h.told k.told;
}

took_none : (l : Option (List ℕ)) → Took l l []
took_none None = tt
took_none (Some text) = (text, refl, refl)

-- stanzas were given, and none of them was a `done`
abbrev pub GaveNoDone : Held → Held → Option (List ℕ) → Option (List ℕ) → Type 0
GaveNoDone before now l m = (stanzas : List Stanza) × NoneDone stanzas × Receives before now l m stanzas

-- nothing was received yet
pub receives_none : (a : Held) (l : Option (List ℕ)) → Receives a a l l []
receives_none a l = record {
  taken = [];
  whole = append-nil a.bytes;
  each = tt;
  paid = omega arith;
  told = took_none l;
}

-- bytes that were read
pub receives_read : (a b : Held) (l m : Option (List ℕ)) (bytes : List ℕ) → b.bytes ≡ a.bytes ++ bytes → a.budget ≡ b.budget + length bytes → Took l m bytes → Receives a b l m []
receives_read a b l m bytes held paid told = record { taken = bytes; whole = sym held; each = tt; paid = paid; told = told }

-- a stanza that was held
pub receives_held : (a b : Held) (l : Option (List ℕ)) (s : Stanza) → IsStanza s → a.bytes ≡ spelling s ++ b.bytes → b.budget ≡ a.budget → Receives a b l l (s ∷ [])
receives_held a b l s is held same = record {
  taken = [];
  whole = append-nil a.bytes ∙ (held ∙ ap (λ (t : List ℕ). t ++ b.bytes) (sym (append-nil (spelling s))));
  each = (is, tt);
  paid = omega (arith, same);
  told = took_none l;
}

-- a stanza that was given with nothing read stood at the front of what was held
pub receives_unpaid : (a b : Held) (l m : Option (List ℕ)) (s : Stanza) → Receives a b l m (s ∷ []) → b.budget ≡ a.budget → a.bytes ≡ spelling s ++ b.bytes
receives_unpaid a b l m s r same =
    let none : r.taken ≡ [] = nil_from_length r.taken (let p = r.paid in omega (arith, p, same)) in
    sym (append-nil a.bytes) ∙ (ap (λ (t : List ℕ). a.bytes ++ t) (sym none) ∙ (r.whole ∙ ap (λ (t : List ℕ). t ++ b.bytes) (append-nil (spelling s))))

-- one stanza more, with little held behind each
pub little_more : {S : Type 0} (first a b : Held) (old mid new : S) (l m : Option (List ℕ)) (s : Stanza) → Little first a old mid → Receives a b l m (s ∷ []) → Little a b mid new → Little first b old new
little_more first a b old mid new l m s before r (inr few) = inr few
little_more first a b old mid new l m s (inl same) r (inl more) = inl (more.0 ∙ same.0, more.1 ∙ same.1)
little_more first a b old mid new l m s (inr few) r (inl more) =
    inr (omega (arith, few, ap length (receives_unpaid a b l m s r more.1) ∙ length-append (spelling s) b.bytes))

-- a stanza that was given is held or to be read no more
pub receives_less : (a b : Held) (l m : Option (List ℕ)) (s : Stanza) → Receives a b l m (s ∷ []) → length b.bytes + b.budget < length a.bytes + a.budget
receives_less a b l m s r =
    let whole : length a.bytes + length r.taken ≡ length (spelling s ++ []) + length b.bytes = sym (length-append a.bytes r.taken) ∙ (ap length r.whole ∙ length-append (spelling s ++ []) b.bytes) in
    let some : length (spelling s ++ []) ≡ length (spelling s) = ap length (append-nil (spelling s)) in
    let marked : 0 < length (spelling s) = omega arith in
    let p = r.paid in
    omega (arith, whole, some, marked, p)

-- ---- readings

-- the text that a reader and its source bring, and how much of it may be read
module _ (before now : Held) (text : List ℕ) (left : Option (List ℕ)) (stanzas : List Stanza) (r : Receives before now (Some text) left stanzas) where
  budget : ℕ
  budget = before.budget + length before.bytes

  rest : List ℕ
  rest = r.told.0

  -- what stands behind the bytes that were taken, within the budget
  more : List ℕ
  more = take now.budget rest

  within : take budget (before.bytes ++ text) ≡ flat_map spelling stanzas ++ (now.bytes ++ more)
  unfolding budget rest more
  within =
      let held : List ℕ = before.bytes ++ r.taken in
      let whole : before.bytes ++ text ≡ held ++ r.told.0 = ap (λ (t : List ℕ). before.bytes ++ t) r.told.1 ∙ sym (append_assoc before.bytes r.taken r.told.0) in
      let count : before.budget + length before.bytes ≡ length held + now.budget = let p = r.paid in omega (arith, length-append before.bytes r.taken) in
      rw (whole, count) (take-append-add held r.told.0 now.budget ∙ (ap (λ (t : List ℕ). t ++ take now.budget r.told.0) r.whole ∙ append_assoc (flat_map spelling stanzas) now.bytes (take now.budget r.told.0)))

parts : (xs : List Stanza) (last : Stanza) → AllByRecursion IsStanza (xs ++ last ∷ []) → AllByRecursion IsStanza xs × IsStanza last
parts [] last h = (tt, h.0)
parts (x ∷ xs) last h = let others = parts xs last h.1 in ((h.0, others.0), others.1)

last_apart : (stanzas : List Stanza) (last : Stanza) (rest : List ℕ) → flat_map spelling (stanzas ++ last ∷ []) ++ rest ≡ flat_map spelling stanzas ++ (spelling last ++ rest)
last_apart stanzas last rest =
    ap (λ (t : List ℕ). t ++ rest) (flat_map-append spelling stanzas (last ∷ []) ∙ ap (λ (t : List ℕ). flat_map spelling stanzas ++ t) (append-nil (spelling last)))
    ∙ append_assoc (flat_map spelling stanzas) (spelling last) rest

same_some : (xs ys : List ℕ) → Some xs ≡ Some ys → xs ≡ ys
same_some xs ys e = cc

module _ (before now : Held) (text : List ℕ) (left : Option (List ℕ)) where
  pub reads_done : (stanzas : List Stanza) (last : Stanza) → Receives before now (Some text) left (stanzas ++ last ∷ []) → NoneDone stanzas → IsDone last
      → Reads (before.bytes ++ text) (before.budget + length before.bytes) (Before_done stanzas)
  unfolding more rest budget
  reads_done stanzas last r none done =
      let each = parts stanzas last r.each in
      record {
        last = last;
        rest = now.bytes ++ take now.budget r.told.0;
        whole = within before now text left (stanzas ++ last ∷ []) r ∙ last_apart stanzas last (now.bytes ++ take now.budget r.told.0);
        each = each.0;
        none_done = none;
        last_is_stanza = each.1;
        last_is_done = done;
      }

  pub reads_invalid : (stanzas : List Stanza) → Receives before now (Some text) left stanzas → NoneDone stanzas → IsMalformed now.bytes
      → Reads (before.bytes ++ text) (before.budget + length before.bytes) Invalid_data
  unfolding more rest budget
  reads_invalid stanzas r none bad =
      let longer = malformed_longer now.bytes (take now.budget r.told.0) bad in (
        now.bytes ++ take now.budget r.told.0,
        record {
          stanzas = stanzas;
          splits = record { whole = within before now text left stanzas r; each = r.each; longest = longer.begins_none };
          none_done = none;
        },
        longer.no_front,
      )

  -- where nothing more may be read, or nothing is left, what is held is the rest
  held_rest : (stanzas : List Stanza) (r : Receives before now (Some text) left stanzas) → NoneDone stanzas → IsFront now.bytes → take now.budget r.told.0 ≡ []
      → HasNoDone (take (before.budget + length before.bytes) (before.bytes ++ text)) now.bytes
  unfolding more rest budget
  held_rest stanzas r none front no_more = record {
    stanzas = stanzas;
    splits = record {
      whole = within before now text left stanzas r ∙ ap (λ (t : List ℕ). flat_map spelling stanzas ++ t) (ap (λ (t : List ℕ). now.bytes ++ t) no_more ∙ append-nil now.bytes);
      each = r.each;
      longest = front_begins_none now.bytes front;
    };
    none_done = none;
  }

  pub reads_ended : (stanzas : List Stanza) → Receives before now (Some text) left stanzas → NoneDone stanzas → IsFront now.bytes → 0 < now.budget → left ≡ Some []
      → Reads (before.bytes ++ text) (before.budget + length before.bytes) Unexpected_eof
  reads_ended stanzas r none front some ended =
      let nil : r.told.0 ≡ [] = same_some r.told.0 [] (sym r.told.2 ∙ ended) in
      let no_more : take now.budget r.told.0 ≡ [] = ap (take now.budget) nil ∙ take_all now.budget [] (omega arith) in
      let len : length text ≡ length r.taken = ap length (r.told.1 ∙ (ap (λ (t : List ℕ). r.taken ++ t) nil ∙ append-nil r.taken)) in
      (now.bytes, held_rest stanzas r none front no_more, front, let p = r.paid in omega (arith, len, some, length-append before.bytes text))

  pub reads_spent : (stanzas : List Stanza) → Receives before now (Some text) left stanzas → NoneDone stanzas → IsFront now.bytes → now.budget ≡ 0
      → Reads (before.bytes ++ text) (before.budget + length before.bytes) Too_much
  reads_spent stanzas r none front spent =
      let no_more : take now.budget r.told.0 ≡ [] = ap (λ (n : ℕ). take n r.told.0) spent in
      let len : length text ≡ length r.taken + length r.told.0 = ap length r.told.1 ∙ length-append r.taken r.told.0 in
      (now.bytes, held_rest stanzas r none front no_more, front, let p = r.paid in omega (arith, len, spent, length-append before.bytes text))

-- ---- whole phases

-- a text with a `done` is no front
pub phase_no_front : (text : List ℕ) (stanzas : List Stanza) → StandsBeforeDone text stanzas → IsFront text → ⊥
phase_no_front text [] stands front = front_begins_none text front stands.last stands.rest stands.last_is_stanza stands.whole
phase_no_front text (s ∷ ss) stands front =
    front_begins_none text front s (flat_map spelling ss ++ (spelling stands.last ++ stands.rest)) stands.each.0 (stands.whole ∙ append_assoc (spelling s) (flat_map spelling ss) (spelling stands.last ++ stands.rest))

-- behind a stanza that is no `done` the phase goes on
pub phase_behind : (text more : List ℕ) (s : Stanza) (stanzas : List Stanza) → text ≡ spelling s ++ more → IsStanza s → (IsDone s → ⊥) → StandsBeforeDone text stanzas
    → (others : List Stanza) × StandsBeforeDone more others
phase_behind text more s [] is stanza other stands =
    let first = same_stanza s stands.last more stands.rest stanza stands.last_is_stanza (sym is ∙ stands.whole) in
    absurd (other (subst IsDone (sym first.0) stands.last_is_done))
phase_behind text more s (t ∷ ts) is stanza other stands =
    let rest : List ℕ = flat_map spelling ts ++ (spelling stands.last ++ stands.rest) in
    let first = same_stanza s t more rest stanza stands.each.0 (sym is ∙ (stands.whole ∙ append_assoc (spelling t) (flat_map spelling ts) (spelling stands.last ++ stands.rest))) in (
      ts,
      record {
        last = stands.last;
        rest = stands.rest;
        whole = first.1;
        each = stands.each.1;
        none_done = stands.none_done.1;
        last_is_stanza = stands.last_is_stanza;
        last_is_done = stands.last_is_done;
      },
    )

-- where a whole phase was held first, nothing was read, and a whole phase is held
abbrev pub StillHeld : {S : Type 0} → Held → Held → S → S → Type 0
StillHeld first now old new = (stanzas : List Stanza) → StandsBeforeDone first.bytes stanzas → (new ≡ old) × (more : List Stanza) × StandsBeforeDone now.bytes more

-- then the next receiving reads nothing
pub held_unread : {S : Type 0} (first a : Held) (old mid new : S) → StillHeld first a old mid → ((IsFront a.bytes → ⊥) → new ≡ mid)
    → (stanzas : List Stanza) → StandsBeforeDone first.bytes stanzas → new ≡ old
held_unread first a old mid new still unread stanzas stands =
    let held = still stanzas stands in
    unread (phase_no_front a.bytes held.1 held.2) ∙ held.0

pub held_more : {S : Type 0} (first a b : Held) (old mid new : S) (l m : Option (List ℕ)) (s : Stanza) → StillHeld first a old mid → ((IsFront a.bytes → ⊥) → new ≡ mid)
    → ((IsFront a.bytes → ⊥) → b.budget ≡ a.budget) → Receives a b l m (s ∷ []) → (IsDone s → ⊥) → StillHeld first b old new
held_more first a b old mid new l m s still unread unpaid r other stanzas stands =
    let held = still stanzas stands in
    let no_front = phase_no_front a.bytes held.1 held.2 in
    let more = phase_behind a.bytes b.bytes s held.1 (receives_unpaid a b l m s r (unpaid no_front)) r.each.0 other held.2 in
    (unread no_front ∙ held.0, more.0, more.1)

-- the bytes that were taken hold no `done`, where none was given
pub taken_no_done : (before now : Held) (l m : Option (List ℕ)) (stanzas : List Stanza) → Receives before now l m stanzas → NoneDone stanzas → IsFront now.bytes
    → (taken : List ℕ) × Took l m taken × (before.budget ≡ now.budget + length taken) × HasNoDone (before.bytes ++ taken) now.bytes
taken_no_done before now l m stanzas r none front = (
  r.taken,
  r.told,
  r.paid,
  record {
    stanzas = stanzas;
    splits = record { whole = r.whole; each = r.each; longest = front_begins_none now.bytes front };
    none_done = none;
  },
)
