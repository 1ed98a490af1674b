-- A text has one reading.
use Rattle.std.proofs.Common.{◌≡◌, ◌≢◌, ℕ, zero, suc, ◌<◌, List, [], ◌∷◌, ◌++◌, length, length-append, take, refl, sym, ap, subst, ◌∙◌, append_assoc, arith, inl, inr}
use Rattle.std.proofs.lemmas.Bool.{cases_lt}
use Rattle.std.specs.List.{flat_map, AllByRecursion}
use Rattle.age_format.specs.Stanza.{Stanza, IsStanza, IsFront, spelling}
use Rattle.age_format.specs.Reading.{IsDone, NoneDone, StandsBeforeDone, HasNoDone, Reading, Before_done, Invalid_data, Unexpected_eof, Too_much, Reads}
use Rattle.age_format.proofs.Stanzas.{the_same_stanza as same_stanza}

-- the spellings of a stanza and of those after it
cons_text : (s : Stanza) (ss : List Stanza) (more : List ℕ) → flat_map spelling (s ∷ ss) ++ more ≡ spelling s ++ (flat_map spelling ss ++ more)
cons_text s ss more = append_assoc (spelling s) (flat_map spelling ss) more

-- two lists of stanzas that each go on with what no stanza of the other stands at
heads : (s t : Stanza) (ss ts : List Stanza) (more rest : List ℕ) → IsStanza s → IsStanza t
    → flat_map spelling (s ∷ ss) ++ more ≡ flat_map spelling (t ∷ ts) ++ rest → (s ≡ t) × (flat_map spelling ss ++ more ≡ flat_map spelling ts ++ rest)
heads s t ss ts more rest h k e =
    same_stanza s t (flat_map spelling ss ++ more) (flat_map spelling ts ++ rest) h k (sym (cons_text s ss more) ∙ (e ∙ cons_text t ts rest))

-- a text splits in one way
pub same_split : (ss ts : List Stanza) (more rest : List ℕ) → AllByRecursion IsStanza ss → AllByRecursion IsStanza ts
    → ((s : Stanza) (x : List ℕ) → IsStanza s → more ≢ spelling s ++ x) → ((s : Stanza) (x : List ℕ) → IsStanza s → rest ≢ spelling s ++ x)
    → flat_map spelling ss ++ more ≡ flat_map spelling ts ++ rest → (ss ≡ ts) × (more ≡ rest)
same_split [] [] more rest h k p q e = (refl, e)
same_split [] (t ∷ ts) more rest h k p q e = absurd (p t (flat_map spelling ts ++ rest) k.0 (e ∙ cons_text t ts rest))
same_split (s ∷ ss) [] more rest h k p q e = absurd (q s (flat_map spelling ss ++ more) h.0 (sym e ∙ cons_text s ss more))
same_split (s ∷ ss) (t ∷ ts) more rest h k p q e =
    let first = heads s t ss ts more rest h.0 k.0 e in
    let others = same_split ss ts more rest h.1 k.1 p q first.1 in
    (cc (first.0, others.0), others.1)

-- the stanzas before the first `done` are one list
before_first : (ss ts : List Stanza) (last final : Stanza) (more rest : List ℕ) → AllByRecursion IsStanza ss → AllByRecursion IsStanza ts → NoneDone ss → NoneDone ts
    → IsStanza last → IsStanza final → IsDone last → IsDone final
    → flat_map spelling ss ++ (spelling last ++ more) ≡ flat_map spelling ts ++ (spelling final ++ rest) → ss ≡ ts
before_first [] [] last final more rest h k n m hl hf dl df e = refl
before_first [] (t ∷ ts) last final more rest h k n m hl hf dl df e =
    let first = same_stanza last t more (flat_map spelling ts ++ (spelling final ++ rest)) hl k.0 (e ∙ cons_text t ts (spelling final ++ rest)) in
    absurd (m.0 (subst IsDone first.0 dl))
before_first (s ∷ ss) [] last final more rest h k n m hl hf dl df e =
    let first = same_stanza final s rest (flat_map spelling ss ++ (spelling last ++ more)) hf h.0 (sym e ∙ cons_text s ss (spelling last ++ more)) in
    absurd (n.0 (subst IsDone first.0 df))
before_first (s ∷ ss) (t ∷ ts) last final more rest h k n m hl hf dl df e =
    let first = heads s t ss ts (spelling last ++ more) (spelling final ++ rest) h.0 k.0 e in
    let others = before_first ss ts last final more rest h.1 k.1 n.1 m.1 hl hf dl df first.1 in
    cc (first.0, others)

-- a text with a first `done` doesn't split without one
no_done_beside : (ss ts : List Stanza) (last : Stanza) (more rest : List ℕ) → AllByRecursion IsStanza ss → AllByRecursion IsStanza ts → NoneDone ts → IsStanza last → IsDone last
    → ((s : Stanza) (x : List ℕ) → IsStanza s → rest ≢ spelling s ++ x) → flat_map spelling ss ++ (spelling last ++ more) ≡ flat_map spelling ts ++ rest → ⊥
no_done_beside [] [] last more rest h k m hl dl p e = p last more hl (sym e)
no_done_beside [] (t ∷ ts) last more rest h k m hl dl p e =
    let first = same_stanza last t more (flat_map spelling ts ++ rest) hl k.0 (e ∙ cons_text t ts rest) in
    m.0 (subst IsDone first.0 dl)
no_done_beside (s ∷ ss) [] last more rest h k m hl dl p e = p s (flat_map spelling ss ++ (spelling last ++ more)) h.0 (sym e ∙ cons_text s ss (spelling last ++ more))
no_done_beside (s ∷ ss) (t ∷ ts) last more rest h k m hl dl p e =
    no_done_beside ss ts last more rest h.1 k.1 m.1 hl dl p (heads s t ss ts (spelling last ++ more) rest h.0 k.0 e).1

-- ---- readings

pub same_stanzas_before : (text : List ℕ) (ss ts : List Stanza) → StandsBeforeDone text ss → StandsBeforeDone text ts → ss ≡ ts
same_stanzas_before text ss ts a b =
    before_first ss ts a.last b.last a.rest b.rest a.each b.each a.none_done b.none_done a.last_is_stanza b.last_is_stanza a.last_is_done b.last_is_done (sym a.whole ∙ b.whole)

pub done_or_none : (text rest : List ℕ) (ss : List Stanza) → StandsBeforeDone text ss → HasNoDone text rest → ⊥
done_or_none text rest ss a b =
    no_done_beside ss b.stanzas a.last a.rest rest a.each b.splits.each b.none_done a.last_is_stanza a.last_is_done b.splits.longest (sym a.whole ∙ b.splits.whole)

one_rest : (text more rest : List ℕ) → HasNoDone text more → HasNoDone text rest → more ≡ rest
one_rest text more rest a b =
    (same_split a.stanzas b.stanzas more rest a.splits.each b.splits.each a.splits.longest b.splits.longest (sym a.splits.whole ∙ b.splits.whole)).1

-- a rest that is a front is no rest that is none
front_or_none : (text more rest : List ℕ) → HasNoDone text more → HasNoDone text rest → IsFront more → (IsFront rest → ⊥) → ⊥
front_or_none text more rest a b front none = none (subst IsFront (one_rest text more rest a b) front)

pub same_reading : (text : List ℕ) (budget : ℕ) (one other : Reading) → Reads text budget one → Reads text budget other → one ≡ other
same_reading text budget (Before_done ss) (Before_done ts) a b = ap Before_done (same_stanzas_before (take budget text) ss ts a b)
same_reading text budget (Before_done ss) Invalid_data a b = absurd (done_or_none _ b.0 ss a b.1)
same_reading text budget (Before_done ss) Unexpected_eof a b = absurd (done_or_none _ b.0 ss a b.1)
same_reading text budget (Before_done ss) Too_much a b = absurd (done_or_none _ b.0 ss a b.1)
same_reading text budget Invalid_data (Before_done ts) a b = absurd (done_or_none _ a.0 ts b a.1)
same_reading text budget Invalid_data Invalid_data a b = refl
same_reading text budget Invalid_data Unexpected_eof a b = absurd (front_or_none _ b.0 a.0 b.1 a.1 b.2 a.2)
same_reading text budget Invalid_data Too_much a b = absurd (front_or_none _ b.0 a.0 b.1 a.1 b.2 a.2)
same_reading text budget Unexpected_eof (Before_done ts) a b = absurd (done_or_none _ a.0 ts b a.1)
same_reading text budget Unexpected_eof Invalid_data a b = absurd (front_or_none _ a.0 b.0 a.1 b.1 a.2 b.2)
same_reading text budget Unexpected_eof Unexpected_eof a b = refl
same_reading text budget Unexpected_eof Too_much a b = absurd (let p = a.3 in let q = b.3 in omega arith)
same_reading text budget Too_much (Before_done ts) a b = absurd (done_or_none _ a.0 ts b a.1)
same_reading text budget Too_much Invalid_data a b = absurd (front_or_none _ a.0 b.0 a.1 b.1 a.2 b.2)
same_reading text budget Too_much Unexpected_eof a b = absurd (let p = a.3 in let q = b.3 in omega arith)
same_reading text budget Too_much Too_much a b = refl

-- ---- each text has a reading

-- a spelling takes some of a text
shorter_rest : (s : Stanza) (more text : List ℕ) → text ≡ spelling s ++ more → length more < length text
shorter_rest s more text is =
    let marked : 0 < length (spelling s) = omega arith in
    omega (arith, marked, ap length is ∙ length-append (spelling s) more)

-- one stanza more in front of those before a first `done`
stands-cons : (text more : List ℕ) (s : Stanza) (stanzas : List Stanza) → text ≡ spelling s ++ more → IsStanza s → (IsDone s → ⊥)
    → StandsBeforeDone more stanzas → StandsBeforeDone text (s ∷ stanzas)
stands-cons text more s stanzas is stanza other stands = record {
  last = stands.last;
  rest = stands.rest;
  whole = is ∙ ap (λ (x : List ℕ). spelling s ++ x) stands.whole ∙ sym (append_assoc (spelling s) (flat_map spelling stanzas) (spelling stands.last ++ stands.rest));
  each = (stanza, stands.each);
  none_done = (other, stands.none_done);
  last_is_stanza = stands.last_is_stanza;
  last_is_done = stands.last_is_done;
}

-- the same of a text without a `done`
without-cons : (text more : List ℕ) (s : Stanza) (rest : List ℕ) → text ≡ spelling s ++ more → IsStanza s → (IsDone s → ⊥)
    → HasNoDone more rest → HasNoDone text rest
without-cons text more s rest is stanza other without = record {
  stanzas = s ∷ without.stanzas;
  splits = record {
    whole = is ∙ ap (λ (x : List ℕ). spelling s ++ x) without.splits.whole ∙ sym (append_assoc (spelling s) (flat_map spelling without.stanzas) rest);
    each = (stanza, without.splits.each);
    longest = without.splits.longest;
  };
  none_done = (other, without.none_done);
}

-- a text has stanzas before a first `done`, or it has no `done`
some_split : (n : ℕ) (text : List ℕ) → length text < n → ((stanzas : List Stanza) → StandsBeforeDone text stanzas → ⊥)
    → ((rest : List ℕ) → HasNoDone text rest → ⊥) → ⊥
some_split zero text small before none = omega (arith, small)
some_split (suc n) text small before none = none text (record {
  stanzas = [];
  splits = record {
    whole = refl;
    each = tt;
    longest = λ s more stanza is.
        let other : IsDone s → ⊥ = λ done. before [] (record { last = s; rest = more; whole = is; each = tt; none_done = tt; last_is_stanza = stanza; last_is_done = done }) in
        some_split n more (omega (arith, small, shorter_rest s more text is))
        (λ stanzas stands. before (s ∷ stanzas) (stands-cons text more s stanzas is stanza other stands))
        (λ rest without. none rest (without-cons text more s rest is stanza other without));
  };
  none_done = tt;
})

pub some_reading : (text : List ℕ) (budget : ℕ) → ((reading : Reading) → Reads text budget reading → ⊥) → ⊥
some_reading text budget none = some_split (suc (length (take budget text))) (take budget text) (omega arith)
    (λ stanzas stands. none (Before_done stanzas) stands)
    (λ rest without. none Invalid_data (
      rest,
      without,
      λ front. elim (cases_lt (length text) budget) [
        | inl within ↦ none Unexpected_eof (rest, without, front, within)
        | inr past ↦ none Too_much (rest, without, front, past)
      ],
    ))
