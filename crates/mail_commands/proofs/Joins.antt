-- An input that is one of a kind of which none begins another, and then one of any kind.
use Rattle.std.proofs.Common.{◌≡◌, ◌≢◌, ℕ, ◌+◌, ◌-◌, ◌<◌, ◌≤◌, List, [], ◌∷◌, ◌++◌, length, take, drop, ◌⊎◌, inl, inr, refl, sym, ap, subst, ◌∙◌, arith, append_assoc}
use Rattle.std.proofs.lemmas.List.{append-nil, length-append, length_push, take-append-drop, length-take-le, take_at, take-append-le, take-take}
use Rattle.std.proofs.Math.Seq.{take-append-add}
use Rattle.std.proofs.lemmas.Bool.{cases_lt}
use Rattle.mail_commands.specs.Input.{IsPart, BeginsNone, FailsAt, Begins, EndsInside, StopsAt}
use Rattle.mail_commands.specs.Taken.{InputTakes, Reaches, OpenTakes}
use Rattle.mail_commands.specs.private.InputParts.{behind}
use Rattle.mail_commands.specs.private.SealParts.{Then}
use Rattle.mail_commands.specs.declared.error.RunError.{RunError}
use Rattle.mail_commands.specs.declared.error.RunError.TheVariants.{Place, Ended, InvalidKey, Mail}
use Rattle.mail_commands.proofs.Inputs.{NoneBeginsAnother, Stands, nil_right, parts_of_fails, split_either, tails}

-- ---- of one kind

module _ (Is : List ℕ → Type 0) where
  -- the front of what begins an input begins it
  pub Begins-front : (a b : List ℕ) → Begins Is (a ++ b) → Begins Is a
  Begins-front a b p = (b ++ p.0, subst Is (append_assoc a b p.0) p.1)

  pub Begins-take : (n : ℕ) (text : List ℕ) → Begins Is text → Begins Is (take n text)
  Begins-take n text p = Begins-front (take n text) (drop n text) (subst (Begins Is) (sym (take-append-drop n text)) p)

  pub Begins-whole : (text : List ℕ) → Is text → Begins Is text
  Begins-whole text h = ([], subst Is (sym (append-nil text)) h)

  pub Begins-part : (text : List ℕ) → IsPart Is text → Begins Is text
  Begins-part text p = (p.0, p.2)

  -- what begins an input, and one byte behind it
  pub Reaches-push : (a : List ℕ) (b : ℕ) → Begins Is a → Reaches Is (a ++ b ∷ [])
  Reaches-push a b p n lt =
      let le : n ≤ length a = omega (arith, lt, length_push a b) in
      subst (Begins Is) (sym (take-append-le n a (b ∷ []) le)) (Begins-take n a p)

  pub Reaches-begins : (a : List ℕ) → Begins Is a → Reaches Is a
  Reaches-begins a p n lt = Begins-take n a p

  -- where a text stops, by its parts
  pub StopsAt-parts : (front : List ℕ) (b : ℕ) (rest : List ℕ) → Begins Is front → BeginsNone Is (front ++ b ∷ []) → StopsAt Is (front ++ b ∷ rest) (length front)
  StopsAt-parts front b rest p none =
      let last : take (length front + 1) (front ++ b ∷ rest) ≡ front ++ b ∷ [] =
      ap (λ (t : List ℕ). take (length front + 1) t) (sym (append_assoc front (b ∷ []) rest)) ∙ take_at (front ++ b ∷ []) rest (length front + 1) (length_push front b) in
      record {
        within = omega (arith, length-append front (b ∷ rest));
        begins = subst (Begins Is) (sym (take_at front (b ∷ rest) (length front) refl)) p;
        fails = subst (BeginsNone Is) (sym last) none;
      }

  -- what begins an input stops nowhere
  pub stops_no_begin : (text : List ℕ) (place : ℕ) → StopsAt Is text place → Begins Is text → ⊥
  stops_no_begin text place s p = let here = Begins-take (place + 1) text p in s.fails here.0 here.1

  -- a text stops at no place in front of another
  stops_not_before : (text : List ℕ) (place other : ℕ) → StopsAt Is text place → StopsAt Is text other → place < other → ⊥
  stops_not_before text place other s h lt =
      let le : place + 1 ≤ other = omega (arith, lt) in
      let short : take (place + 1) (take other text) ≡ take (place + 1) text = take-take (place + 1) other text le in
      let here : Begins Is (take (place + 1) text) = subst (Begins Is) short (Begins-take (place + 1) (take other text) h.begins) in
      s.fails here.0 here.1

  pub one_stop : (text : List ℕ) (place other : ℕ) → StopsAt Is text place → StopsAt Is text other → place ≡ other
  one_stop text place other s h =
      elim (cases_lt place other) [
        | inl before ↦ absurd (stops_not_before text place other s h before)
        | inr behind ↦ elim (cases_lt other place) [
          | inl lt ↦ absurd (stops_not_before text other place h s lt)
          | inr le ↦ omega (arith, behind, le)
        ]
      ]

  -- what stands in a text: it is an input, or stops at a place, or ends inside one
  abbrev pub StandsOpen : List ℕ → Type 0
  StandsOpen text = Is text ⊎ (((place : ℕ) × StopsAt Is text place) ⊎ EndsInside Is text)

-- ---- of two kinds that hold the same texts

module _ (P Q : List ℕ → Type 0) (there : (t : List ℕ) → P t → Q t) where
  Begins-there : (text : List ℕ) → Begins P text → Begins Q text
  Begins-there text p = (p.0, there (text ++ p.0) p.1)

  Reaches-there : (text : List ℕ) → Reaches P text → Reaches Q text
  Reaches-there text r n lt = Begins-there (take n text) (r n lt)

  -- what isn't empty and is of the second is of the first
  module _ (back : (t : List ℕ) → t ≢ [] → Q t → P t) where
    none-there : (text : List ℕ) → text ≢ [] → BeginsNone P text → BeginsNone Q text
    none-there [] some none more q = absurd (some refl)
    none-there (x ∷ xs) some none more q = none more (back (x ∷ xs ++ more) (λ e. cc e) q)

    not_nil_take : (place : ℕ) (text : List ℕ) → place < length text → take (place + 1) text ≢ []
    not_nil_take place text lt e =
        let long = length-take-le (place + 1) text (omega (arith, lt)) in
        let none = ap length e in
        omega (arith, long, none)

    pub takes_there : (e : RunError) (bytes : List ℕ) → (e ≡ Ended → Q bytes → P bytes) → OpenTakes P e bytes → OpenTakes Q e bytes
    takes_there (Place place) bytes ended (long, stops) = (
      long,
      record {
        within = stops.within;
        begins = Begins-there (take place bytes) stops.begins;
        fails = none-there (take (place + 1) bytes) (not_nil_take place bytes stops.within) stops.fails;
      },
    )
    takes_there InvalidKey bytes ended none = none
    takes_there Ended bytes ended (begins, not) = (Begins-there bytes begins, λ q. not (ended refl q))
    takes_there (Mail error) bytes ended (inl (e, r)) = inl (e, Reaches-there bytes r)
    takes_there (Mail error) bytes ended (inr (e, p)) = inr (e, Begins-there bytes p)

    -- what stands in a text that isn't empty
    pub stands_there_some : (text : List ℕ) → text ≢ [] → StandsOpen P text → StandsOpen Q text
    stands_there_some text some (inl is) = inl (there text is)
    stands_there_some text some (inr (inl (place, stops))) = inr (inl (
      place,
      record {
        within = stops.within;
        begins = Begins-there (take place text) stops.begins;
        fails = none-there (take (place + 1) text) (not_nil_take place text stops.within) stops.fails;
      },
    ))
    stands_there_some text some (inr (inr (begins, not))) = inr (inr (Begins-there text begins, λ q. not (back text some q)))

-- what stands in a text, of kinds that hold the same
pub stands_same : (P Q : List ℕ → Type 0) → ((t : List ℕ) → P t → Q t) → ((t : List ℕ) → Q t → P t) → (text : List ℕ) → StandsOpen P text → StandsOpen Q text
stands_same P Q there back text (inl is) = inl (there text is)
stands_same P Q there back text (inr (inl (place, stops))) = inr (inl (
  place,
  record {
    within = stops.within;
    begins = (stops.begins.0, there (take place text ++ stops.begins.0) stops.begins.1);
    fails = λ more q. stops.fails more (back (take (place + 1) text ++ more) q);
  },
))
stands_same P Q there back text (inr (inr (begins, not))) = inr (inr ((begins.0, there (text ++ begins.0) begins.1), λ q. not (back text q)))

-- ---- of one kind behind another

module _ (A B : List ℕ → Type 0) where
  abbrev Both : List ℕ → Type 0
  Both text = Then A B text

  begins_first : (least : List ℕ) → B least → (text : List ℕ) → Begins A text → Begins Both text
  begins_first least b text p = (p.0 ++ least, (text ++ p.0, least, sym (append_assoc text p.0 least), p.1, b))

  begins_second : (first text : List ℕ) → A first → Begins B text → Begins Both (first ++ text)
  begins_second first text a p = (p.0, (first, text ++ p.0, append_assoc first text p.0, a, p.1))

  module _ (alone : NoneBeginsAnother A) where
    -- what is a part of the first kind holds none of it
    no_longer : (front first m : List ℕ) → IsPart A front → A first → front ≡ first ++ m → ⊥
    no_longer front first m p a e =
        let both : first ++ (m ++ p.0) ≡ (front ++ p.0) ++ [] = sym (append_assoc first m p.0) ∙ (ap (λ (t : List ℕ). t ++ p.0) (sym e) ∙ sym (append-nil (front ++ p.0))) in
        p.1 (nil_right m p.0 (alone first (front ++ p.0) (m ++ p.0) [] a p.2 both).1)

    -- one that goes on behind a part holds the byte that follows
    goes_on : (m first second front : List ℕ) (b : ℕ) (more : List ℕ) → A first → IsPart A front → BeginsNone A (front ++ b ∷ []) → first ≡ front ++ m → b ∷ more ≡ m ++ second → ⊥
    goes_on [] first second front b more a p none e rest = no_longer front first [] p a (sym (append-nil front) ∙ (sym e ∙ sym (append-nil first)))
    goes_on (y ∷ ys) first second front b more a p none e rest =
        let same = tails b y more (ys ++ second) rest in
        let whole : first ≡ (front ++ b ∷ []) ++ ys = e ∙ (ap (λ (c : ℕ). front ++ c ∷ ys) (sym same.0) ∙ sym (append_assoc front (b ∷ []) ys)) in
        none ys (subst A whole a)

    none_first : (front : List ℕ) (b : ℕ) → IsPart A front → BeginsNone A (front ++ b ∷ []) → BeginsNone Both (front ++ b ∷ [])
    none_first front b p none more (first, second, is, a, c) =
        let whole : front ++ b ∷ more ≡ first ++ second = sym (append_assoc front (b ∷ []) more) ∙ is in
        elim (split_either front (b ∷ more) first second whole) [
          | inl behind ↦ no_longer front first behind.0 p a behind.1
          | inr before ↦ goes_on before.0 first second front b more a p none before.1 before.2
        ]

    none_second : (first text : List ℕ) → A first → BeginsNone B text → BeginsNone Both (first ++ text)
    none_second first text a none more (other, second, is, a', b) =
        let same = alone first other (text ++ more) second a a' (sym (append_assoc first text more) ∙ is) in
        none more (subst B (sym same.1) b)

    inside_first : (text : List ℕ) → IsPart A text → Both text → ⊥
    inside_first text p (first, second, is, a, b) = no_longer text first second p a is

    inside_second : (first text : List ℕ) → A first → (B text → ⊥) → Both (first ++ text) → ⊥
    inside_second first text a not (other, second, is, a', b) = not (subst B (sym (alone first other text second a a' is).1) b)

    stops_first : (least : List ℕ) → B least → (text : List ℕ) (place : ℕ) → FailsAt A text place → StopsAt Both text place
    stops_first least b text place f =
        let parts = parts_of_fails A text place f in
        let stops = StopsAt-parts Both parts.0 parts.1 parts.2 (begins_first least b parts.0 (Begins-part A parts.0 parts.5)) (none_first parts.0 parts.1 parts.5 parts.6) in
        let there : StopsAt Both (parts.0 ++ parts.1 ∷ parts.2) place = subst (StopsAt Both (parts.0 ++ parts.1 ∷ parts.2)) parts.4 stops in
        subst (λ (t : List ℕ). StopsAt Both t place) (sym parts.3) there

    stops_second : (first text : List ℕ) (place : ℕ) → A first → StopsAt B text place → StopsAt Both (first ++ text) (length first + place)
    stops_second first text place a s =
        let lt = s.within in
        let up_to : take (length first + place) (first ++ text) ≡ first ++ take place text = take-append-add first text place in
        let sum : length first + place + 1 ≡ length first + (place + 1) = omega arith in
        let with_it : take (length first + place + 1) (first ++ text) ≡ first ++ take (place + 1) text = ap (λ (n : ℕ). take n (first ++ text)) sum ∙ take-append-add first text (place + 1) in
        record {
          within = omega (arith, lt, length-append first text);
          begins = subst (Begins Both) (sym up_to) (begins_second first (take place text) a s.begins);
          fails = subst (BeginsNone Both) (sym with_it) (none_second first (take (place + 1) text) a s.fails);
        }

    reaches_second : (least : List ℕ) → B least → (first text : List ℕ) → A first → Reaches B text → Reaches Both (first ++ text)
    reaches_second least b first text a r n lt =
        let len = length-append first text in
        elim (cases_lt n (length first)) [
          | inl within ↦
              subst (Begins Both) (sym (take-append-le n first text (omega (arith, within)))) (begins_first least b (take n first) (Begins-take A n first (Begins-whole A first a)))
          | inr behind ↦
              let k = n - length first in
              let sum : n ≡ length first + k = omega (arith, behind) in
              let split : take n (first ++ text) ≡ first ++ take k text = ap (λ (i : ℕ). take i (first ++ text)) sum ∙ take-append-add first text k in
              subst (Begins Both) (sym split) (begins_second first (take k text) a (r k (omega (arith, lt, len, sum))))
        ]

    -- the first was refused
    pub takes_first : (least : List ℕ) → B least → (e : RunError) (bytes : List ℕ) → InputTakes A e bytes → OpenTakes Both e bytes
    takes_first least b (Place place) bytes (long, fails) = (long, stops_first least b bytes place fails)
    takes_first least b InvalidKey bytes none = none
    takes_first least b Ended bytes part = (begins_first least b bytes (Begins-part A bytes part), inside_first bytes part)
    takes_first least b (Mail error) bytes (inl (e, stops)) = inl (e, λ n lt. begins_first least b (take n bytes) (Begins-part A (take n bytes) (stops n lt)))
    takes_first least b (Mail error) bytes (inr (e, part)) = inr (e, begins_first least b bytes (Begins-part A bytes part))

    -- the second was
    pub takes_second : (least : List ℕ) → B least → (e : RunError) (first bytes : List ℕ) → A first → OpenTakes B e bytes → OpenTakes Both (behind (length first) e) (first ++ bytes)
    takes_second least b (Place place) first bytes a (long, stops) = (omega (arith, long, length-append first bytes), stops_second first bytes place a stops)
    takes_second least b InvalidKey first bytes a none = none
    takes_second least b Ended first bytes a (begins, not) = (begins_second first bytes a begins, inside_second first bytes a not)
    takes_second least b (Mail error) first bytes a (inl (e, r)) = inl (e, reaches_second least b first bytes a r)
    takes_second least b (Mail error) first bytes a (inr (e, p)) = inr (e, begins_second first bytes a p)

    -- what stands in a text, by what stands at its front and behind that
    pub some_both : (least : List ℕ) → B least → ((t : List ℕ) → Stands A t) → ((t : List ℕ) → StandsOpen B t) → (text : List ℕ) → StandsOpen Both text
    some_both least b first second text = elim (first text) [
      | inr (inl fails) ↦ inr (inl (fails.0, stops_first least b text fails.0 fails.1))
      | inr (inr part) ↦ inr (inr (begins_first least b text (Begins-part A text part), inside_first text part))
      | inl whole ↦ behind_whole text whole.0 whole.1 whole.2 whole.3 (second whole.1)
    ]
      where
        behind_whole : (text front rest : List ℕ) → text ≡ front ++ rest → A front → StandsOpen B rest → StandsOpen Both text
        behind_whole text front rest e a (inl is) = inl (front, rest, e, a, is)
        behind_whole text front rest e a (inr (inl stops)) = inr (inl (length front + stops.0, subst (λ (t : List ℕ). StopsAt Both t (length front + stops.0)) (sym e) (stops_second front rest stops.0 a stops.1)))
        behind_whole text front rest e a (inr (inr inside)) = inr (inr (subst (EndsInside Both) (sym e) (begins_second front rest a inside.0, inside_second front rest a inside.1)))
