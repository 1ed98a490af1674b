-- Where a command or a `done` stands next in a text, and what receiving comes to up to it.
use Rattle.std.proofs.Common.{◌≡◌, ℕ, ◌+◌, List, [], ◌∷◌, ◌++◌, length, take, Option, Some, refl, sym, ap, ◌∙◌, append_assoc, ◌⊎◌, arith}
use Rattle.std.specs.List.{flat_map, AllByRecursion}
use Rattle.std.proofs.Math.Seq.{take-append-add}
use Rattle.std.proofs.lemmas.List.{append-nil, length-append, take_all}
use Rattle.std.proofs.lemmas.List.Concat.{flat_map-append}
use Rattle.age_format.specs.Stanza.{Stanza, IsStanza, IsFront, spelling}
use Rattle.age_format.specs.Front.{BeginsNone, IsMalformed}
use Rattle.age_format.specs.Reading.{IsDone}
use Rattle.age_format.specs.Receiving.{Held, Receives}
use Rattle.age_format.proofs.Stanzas.{the_same_stanza as same_stanza}
use Rattle.age_format.proofs.Receipts.{front_begins_none, malformed_longer}
use Rattle.age_core.specs.Replies.{IsCommand, ArePassedOver, StandsNext}
use Rattle.age_core.proofs.Passing.{ends_not, next_behind}

module _ (commands : List (List ℕ)) where
  -- ---- a text has one

  one_by : (ps qs : List Stanza) (l m : Stanza) (r t : List ℕ) → flat_map spelling ps ++ (spelling l ++ r) ≡ flat_map spelling qs ++ (spelling m ++ t)
      → AllByRecursion IsStanza ps → AllByRecursion IsStanza qs → ArePassedOver commands ps → ArePassedOver commands qs → IsStanza l → IsStanza m
      → IsDone l ⊎ IsCommand commands l → IsDone m ⊎ IsCommand commands m → (ps ≡ qs) × (l ≡ m) × (r ≡ t)
  one_by [] [] l m r t e each_p each_q over_p over_q is_l is_m ends_l ends_m = let same = same_stanza l m r t is_l is_m e in (refl, same.0, same.1)
  one_by [] (q ∷ qs) l m r t e each_p each_q over_p over_q is_l is_m ends_l ends_m =
      let same = same_stanza l q r (flat_map spelling qs ++ (spelling m ++ t)) is_l each_q.0 (e ∙ append_assoc (spelling q) (flat_map spelling qs) (spelling m ++ t)) in
      absurd (ends_not commands q l (sym same.0) over_q.0 ends_l)
  one_by (p ∷ ps) [] l m r t e each_p each_q over_p over_q is_l is_m ends_l ends_m =
      let same = same_stanza p m (flat_map spelling ps ++ (spelling l ++ r)) t each_p.0 is_m (sym (append_assoc (spelling p) (flat_map spelling ps) (spelling l ++ r)) ∙ e) in
      absurd (ends_not commands p m same.0 over_p.0 ends_m)
  one_by (p ∷ ps) (q ∷ qs) l m r t e each_p each_q over_p over_q is_l is_m ends_l ends_m =
      let whole = sym (append_assoc (spelling p) (flat_map spelling ps) (spelling l ++ r)) ∙ (e ∙ append_assoc (spelling q) (flat_map spelling qs) (spelling m ++ t)) in
      let same = same_stanza p q (flat_map spelling ps ++ (spelling l ++ r)) (flat_map spelling qs ++ (spelling m ++ t)) each_p.0 each_q.0 whole in
      let others = one_by ps qs l m r t same.1 each_p.1 each_q.1 over_p.1 over_q.1 is_l is_m ends_l ends_m in
      (cc (same.0, others.0), others.1, others.2)

  pub one_next : (text : List ℕ) (one other : StandsNext commands text) → (one.passed ≡ other.passed) × (one.last ≡ other.last) × (one.rest ≡ other.rest)
  one_next text one other =
      one_by one.passed other.passed one.last other.last one.rest other.rest (sym one.whole ∙ other.whole) one.each other.each one.passed_over other.passed_over one.last_is_stanza other.last_is_stanza one.last_ends other.last_ends

  -- ---- a text has none

  begins_by : (more : List ℕ) (ps : List Stanza) (l : Stanza) (r : List ℕ) → more ≡ flat_map spelling ps ++ (spelling l ++ r) → AllByRecursion IsStanza ps → IsStanza l → BeginsNone more → ⊥
  begins_by more [] l r e each is none = none l r is e
  begins_by more (p ∷ ps) l r e each is none = none p (flat_map spelling ps ++ (spelling l ++ r)) each.0 (e ∙ append_assoc (spelling p) (flat_map spelling ps) (spelling l ++ r))

  none_by : (text : List ℕ) (passed : List Stanza) (more : List ℕ) → text ≡ flat_map spelling passed ++ more → AllByRecursion IsStanza passed → ArePassedOver commands passed
      → BeginsNone more → StandsNext commands text → ⊥
  none_by text [] more e each over none stands = begins_by more stands.passed stands.last stands.rest (sym e ∙ stands.whole) stands.each stands.last_is_stanza none
  none_by text (p ∷ ps) more e each over none stands =
      none_by (flat_map spelling ps ++ more) ps more refl each.1 over.1 none
      (next_behind commands text (flat_map spelling ps ++ more) p (e ∙ append_assoc (spelling p) (flat_map spelling ps) more) each.0 over.0 stands)

  -- ---- receiving up to it

  module _ (before now : Held) (text : List ℕ) (left : Option (List ℕ)) where
    within : (stanzas : List Stanza) (r : Receives before now (Some text) left stanzas)
        → take (before.budget + length before.bytes) (before.bytes ++ text) ≡ flat_map spelling stanzas ++ (now.bytes ++ take now.budget r.told.0)
    within stanzas r =
        let held : List ℕ = before.bytes ++ r.taken in
        let whole : before.bytes ++ text ≡ held ++ r.told.0 = ap (λ (t : List ℕ). before.bytes ++ t) r.told.1 ∙ sym (append_assoc before.bytes r.taken r.told.0) in
        let count : before.budget + length before.bytes ≡ length held + now.budget = let p = r.paid in omega (arith, length-append before.bytes r.taken) in
        rw (whole, count) (take-append-add held r.told.0 now.budget ∙ (ap (λ (t : List ℕ). t ++ take now.budget r.told.0) r.whole ∙ append_assoc (flat_map spelling stanzas) now.bytes (take now.budget r.told.0)))

    parts : (xs : List Stanza) (last : Stanza) → AllByRecursion IsStanza (xs ++ last ∷ []) → AllByRecursion IsStanza xs × IsStanza last
    parts [] last h = (tt, h.0)
    parts (x ∷ xs) last h = let others = parts xs last h.1 in ((h.0, others.0), others.1)

    last_apart : (stanzas : List Stanza) (last : Stanza) (rest : List ℕ) → flat_map spelling (stanzas ++ last ∷ []) ++ rest ≡ flat_map spelling stanzas ++ (spelling last ++ rest)
    last_apart stanzas last rest =
        ap (λ (t : List ℕ). t ++ rest) (flat_map-append spelling stanzas (last ∷ []) ∙ ap (λ (t : List ℕ). flat_map spelling stanzas ++ t) (append-nil (spelling last)))
        ∙ append_assoc (flat_map spelling stanzas) (spelling last) rest

    pub next_found : (passed : List Stanza) (last : Stanza) → Receives before now (Some text) left (passed ++ last ∷ []) → ArePassedOver commands passed → IsDone last ⊎ IsCommand commands last
        → (next : StandsNext commands (take (before.budget + length before.bytes) (before.bytes ++ text))) × (next.passed ≡ passed) × (next.last ≡ last)
    next_found passed last r over ends =
        let each = parts passed last r.each in (
          record {
            passed = passed;
            last = last;
            rest = now.bytes ++ take now.budget r.told.0;
            whole = within (passed ++ last ∷ []) r ∙ last_apart passed last (now.bytes ++ take now.budget r.told.0);
            each = each.0;
            passed_over = over;
            last_is_stanza = each.1;
            last_ends = ends;
          },
          refl,
          refl,
        )

    pub none_malformed : (passed : List Stanza) → Receives before now (Some text) left passed → ArePassedOver commands passed → IsMalformed now.bytes
        → StandsNext commands (take (before.budget + length before.bytes) (before.bytes ++ text)) → ⊥
    none_malformed passed r over bad =
        none_by (take (before.budget + length before.bytes) (before.bytes ++ text)) passed (now.bytes ++ take now.budget r.told.0) (within passed r) r.each over (malformed_longer now.bytes (take now.budget r.told.0) bad).begins_none

    none_front : (passed : List Stanza) (r : Receives before now (Some text) left passed) → ArePassedOver commands passed → IsFront now.bytes → take now.budget r.told.0 ≡ []
        → StandsNext commands (take (before.budget + length before.bytes) (before.bytes ++ text)) → ⊥
    none_front passed r over front no_more =
        none_by (take (before.budget + length before.bytes) (before.bytes ++ text)) passed now.bytes
        (within passed r ∙ ap (λ (t : List ℕ). flat_map spelling passed ++ t) (ap (λ (t : List ℕ). now.bytes ++ t) no_more ∙ append-nil now.bytes)) r.each over (front_begins_none now.bytes front)

    same_some : (xs ys : List ℕ) → Some xs ≡ Some ys → xs ≡ ys
    same_some xs ys e = cc

    pub none_ended : (passed : List Stanza) → Receives before now (Some text) left passed → ArePassedOver commands passed → IsFront now.bytes → left ≡ Some []
        → StandsNext commands (take (before.budget + length before.bytes) (before.bytes ++ text)) → ⊥
    none_ended passed r over front ended =
        let nil : r.told.0 ≡ [] = same_some r.told.0 [] (sym r.told.2 ∙ ended) in
        none_front passed r over front (ap (take now.budget) nil ∙ take_all now.budget [] (omega arith))

    pub none_spent : (passed : List Stanza) → Receives before now (Some text) left passed → ArePassedOver commands passed → IsFront now.bytes → now.budget ≡ 0
        → StandsNext commands (take (before.budget + length before.bytes) (before.bytes ++ text)) → ⊥
    none_spent passed r over front spent = none_front passed r over front (ap (λ (n : ℕ). take n r.told.0) spent)
