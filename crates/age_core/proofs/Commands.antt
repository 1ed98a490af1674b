-- One answer more of a command, and one stanza more of a phase.
use Rattle.std.proofs.Common.{◌≡◌, ◌≢◌, ℕ, Bool, true, false, not, List, [], ◌∷◌, ◌++◌, filter, Option, Some, None, Result, Ok, Err, refl, sym, ap, subst, ◌∙◌}
use Rattle.std.specs.Prelude.{Vec, MatchOption}
use Rattle.std.specs.List.{AllByRecursion}
use Rattle.std.proofs.lemmas.List.Elements.{filter-append}
use Rattle.std.proofs.lemmas.List.{append-nil}
use Rattle.age_format.specs.declared.format.Stanza.{Stanza}
use Rattle.age_core.specs.Phases.{Commands, is_command, for_a, for_b, for_c, for_d, Calls, values, errors, ComesTo, Ran, MayTake, AnswersIfAsked}

-- ---- answers

values-value : {A E : Type 0} (answers : List (Result A E)) (x : A) → values (answers ++ (Ok x) ∷ []) ≡ values answers ++ x ∷ []
values-value [] x = refl
values-value ((Ok y) ∷ answers) x = ap (λ t. y ∷ t) (values-value answers x)
values-value ((Err e) ∷ answers) x = values-value answers x

errors-value : {A E : Type 0} (answers : List (Result A E)) (x : A) → errors (answers ++ (Ok x) ∷ []) ≡ errors answers
errors-value [] x = refl
errors-value ((Ok y) ∷ answers) x = errors-value answers x
errors-value ((Err e) ∷ answers) x = ap (λ t. e ∷ t) (errors-value answers x)

errors-error : {A E : Type 0} (answers : List (Result A E)) (e : E) → errors (answers ++ (Err e) ∷ []) ≡ errors answers ++ e ∷ []
errors-error [] e = refl
errors-error ((Ok y) ∷ answers) e = errors-error answers e
errors-error ((Err d) ∷ answers) e = ap (λ t. d ∷ t) (errors-error answers e)

push_some : {E : Type 0} (es : List E) (e : E) → es ++ e ∷ [] ≢ []
push_some [] e h = cc
push_some (d ∷ es) e h = cc

module _ {A E Z : Type 0} (outcome : Result (Vec A Z) (Vec E Z)) (answer : Result A E) (answers : List (Result A E)) (h : ComesTo outcome answers) where
  pub add_value : (found : Vec A Z) (now : List A) (x : A) → outcome ≡ Ok found → answer ≡ Ok x → now ≡ found.items ++ x ∷ []
      → (errors (answers ++ answer ∷ []) ≡ []) × (now ≡ values (answers ++ answer ∷ []))
  add_value found now x is value pushed =
      let k : ComesTo (Ok found) answers = subst (λ o. ComesTo o answers) is h in
      (rw value (errors-value answers x ∙ k.0), rw value (pushed ∙ (ap (λ t. t ++ x ∷ []) k.1 ∙ sym (values-value answers x))))

  pub add_first : (found : Vec A Z) (now : List E) (e : E) → outcome ≡ Ok found → answer ≡ Err e → now ≡ e ∷ []
      → (errors (answers ++ answer ∷ []) ≢ []) × (now ≡ errors (answers ++ answer ∷ []))
  add_first found now e is error pushed =
      let k : ComesTo (Ok found) answers = subst (λ o. ComesTo o answers) is h in
      let all : errors (answers ++ answer ∷ []) ≡ errors answers ++ e ∷ [] = rw error (errors-error answers e) in
      ((λ none. push_some (errors answers) e (sym all ∙ none)), pushed ∙ (ap (λ t. t ++ e ∷ []) (sym k.0) ∙ sym all))

  pub add_dropped : (found : Vec E Z) (x : A) → outcome ≡ Err found → answer ≡ Ok x
      → (errors (answers ++ answer ∷ []) ≢ []) × (found.items ≡ errors (answers ++ answer ∷ []))
  add_dropped found x is value =
      let k : ComesTo (Err found) answers = subst (λ o. ComesTo o answers) is h in
      let all : errors (answers ++ answer ∷ []) ≡ errors answers = rw value (errors-value answers x) in
      ((λ none. k.0 (sym all ∙ none)), k.1 ∙ sym all)

  pub add_error : (found : Vec E Z) (now : List E) (e : E) → outcome ≡ Err found → answer ≡ Err e → now ≡ found.items ++ e ∷ []
      → (errors (answers ++ answer ∷ []) ≢ []) × (now ≡ errors (answers ++ answer ∷ []))
  add_error found now e is error pushed =
      let k : ComesTo (Err found) answers = subst (λ o. ComesTo o answers) is h in
      let all : errors (answers ++ answer ∷ []) ≡ errors answers ++ e ∷ [] = rw error (errors-error answers e) in
      ((λ none. push_some (errors answers) e (sym all ∙ none)), pushed ∙ (ap (λ t. t ++ e ∷ []) k.1 ∙ sym all))

-- one call more
pub calls_more : {F A : Type 0} (step : F → Stanza → A → F → Type 0) (f : F) (ss : List Stanza) (answers : List A) (last : F) (s : Stanza) (a : A) (next : F)
    → Calls step f ss answers last → step last s a next → Calls step f (ss ++ s ∷ []) (answers ++ a ∷ []) next
calls_more step f [] [] last s a next h k = (next, subst (λ x. step x s a next) (sym h) k, refl)
calls_more step f [] (b ∷ bs) last s a next h k = absurd h
calls_more step f (t ∷ ts) [] last s a next h k = absurd h
calls_more step f (t ∷ ts) (b ∷ bs) last s a next h k = (h.0, h.1, calls_more step h.0 ts bs last s a next h.2 k)

-- a command that took stanzas, by equal names
pub ran_as : {F A E Z : Type 0} (step : F → Stanza → Result A E → F → Type 0) (f : F) (ss extra one : List Stanza) (now then : Result (Vec A Z) (Vec E Z)) (last end : F)
    → extra ≡ one → now ≡ then → last ≡ end → Ran step f (ss ++ one) then end → Ran step f (ss ++ extra) now last
ran_as step f ss extra one now then last end e o l h = rw (e, o, l) h

-- a command that took none
pub ran_idle : {F A E Z : Type 0} (step : F → Stanza → Result A E → F → Type 0) (f : F) (ss extra : List Stanza) (now then : Result (Vec A Z) (Vec E Z)) (last end : F)
    → extra ≡ [] → now ≡ then → last ≡ end → Ran step f ss then end → Ran step f (ss ++ extra) now last
ran_idle step f ss extra now then last end e o l h = rw (e, o, l) (rw (append-nil ss) h)

-- ---- to which command a stanza goes

picks : (p : Stanza → Bool) (xs : List Stanza) (s : Stanza) → xs ≡ s ∷ [] → p s ≡ true → filter p xs ≡ s ∷ []
picks p xs s e t = rw (e, t) refl

picks_none : (p : Stanza → Bool) (xs : List Stanza) (s : Stanza) → xs ≡ s ∷ [] → p s ≡ false → filter p xs ≡ []
picks_none p xs s e t = rw (e, t) refl

picks_nil : (p : Stanza → Bool) (xs : List Stanza) → xs ≡ [] → filter p xs ≡ []
picks_nil p xs e = rw e refl

-- what one stanza is to each command
pub record Goes (tags : Commands) (s : Stanza) (a b c d : List Stanza) : Type 0 where
  pub to_a : for_a tags (s ∷ []) ≡ a
  pub to_b : for_b tags (s ∷ []) ≡ b
  pub to_c : for_c tags (s ∷ []) ≡ c
  pub to_d : for_d tags (s ∷ []) ≡ d

module _ (tags : Commands) (s : Stanza) where
  p_a : Stanza → Bool
  p_a = is_command (Some tags.a)

  p_b : Stanza → Bool
  p_b = is_command (Some tags.b)

  p_c : Stanza → Bool
  p_c = is_command tags.c

  p_d : Stanza → Bool
  p_d = is_command tags.d

  -- what is left behind each command
  left_none : (p : Stanza → Bool) (xs : List Stanza) → xs ≡ s ∷ [] → p s ≡ true → filter (λ x. not (p x)) xs ≡ []
  left_none p xs e t = picks_none (λ x. not (p x)) xs s e (ap not t)

  left_one : (p : Stanza → Bool) (xs : List Stanza) → xs ≡ s ∷ [] → p s ≡ false → filter (λ x. not (p x)) xs ≡ s ∷ []
  left_one p xs e t = picks (λ x. not (p x)) xs s e (ap not t)

  left_nil : (p : Stanza → Bool) (xs : List Stanza) → xs ≡ [] → filter (λ x. not (p x)) xs ≡ []
  left_nil p xs e = picks_nil (λ x. not (p x)) xs e

  pub goes_to_a : is_command (Some tags.a) s ≡ true → Goes tags s (s ∷ []) [] [] []
  unfolding p_a p_b p_c p_d
  goes_to_a ta =
      let a = left_none p_a (s ∷ []) refl ta in
      let b = left_nil p_b _ a in
      let c = left_nil p_c _ b in
      record { to_a = picks p_a (s ∷ []) s refl ta; to_b = picks_nil p_b _ a; to_c = picks_nil p_c _ b; to_d = picks_nil p_d _ c }

  pub goes_to_b : is_command (Some tags.a) s ≡ false → is_command (Some tags.b) s ≡ true → Goes tags s [] (s ∷ []) [] []
  unfolding p_a p_b p_c p_d
  goes_to_b fa tb =
      let a = left_one p_a (s ∷ []) refl fa in
      let b = left_none p_b _ a tb in
      let c = left_nil p_c _ b in
      record { to_a = picks_none p_a (s ∷ []) s refl fa; to_b = picks p_b _ s a tb; to_c = picks_nil p_c _ b; to_d = picks_nil p_d _ c }

  pub goes_to_c : is_command (Some tags.a) s ≡ false → is_command (Some tags.b) s ≡ false → is_command tags.c s ≡ true → Goes tags s [] [] (s ∷ []) []
  unfolding p_a p_b p_c p_d
  goes_to_c fa fb tc =
      let a = left_one p_a (s ∷ []) refl fa in
      let b = left_one p_b _ a fb in
      let c = left_none p_c _ b tc in
      record { to_a = picks_none p_a (s ∷ []) s refl fa; to_b = picks_none p_b _ s a fb; to_c = picks p_c _ s b tc; to_d = picks_nil p_d _ c }

  pub goes_to_d : is_command (Some tags.a) s ≡ false → is_command (Some tags.b) s ≡ false → is_command tags.c s ≡ false → is_command tags.d s ≡ true → Goes tags s [] [] [] (s ∷ [])
  unfolding p_a p_b p_c p_d
  goes_to_d fa fb fc td =
      let a = left_one p_a (s ∷ []) refl fa in
      let b = left_one p_b _ a fb in
      let c = left_one p_c _ b fc in
      record { to_a = picks_none p_a (s ∷ []) s refl fa; to_b = picks_none p_b _ s a fb; to_c = picks_none p_c _ s b fc; to_d = picks p_d _ s c td }

  pub goes_nowhere : is_command (Some tags.a) s ≡ false → is_command (Some tags.b) s ≡ false → is_command tags.c s ≡ false → is_command tags.d s ≡ false → Goes tags s [] [] [] []
  unfolding p_a p_b p_c p_d
  goes_nowhere fa fb fc fd =
      let a = left_one p_a (s ∷ []) refl fa in
      let b = left_one p_b _ a fb in
      let c = left_one p_c _ b fc in
      record { to_a = picks_none p_a (s ∷ []) s refl fa; to_b = picks_none p_b _ s a fb; to_c = picks_none p_c _ s b fc; to_d = picks_none p_d _ s c fd }

-- what goes to the commands of stanzas, and of one more
filter_both : (p : Stanza → Bool) (xs ys : List Stanza) → filter p (xs ++ ys) ≡ filter p xs ++ filter p ys
filter_both p xs ys = filter-append p xs ys

twice_both : (p q : Stanza → Bool) (xs ys : List Stanza) → filter q (filter p (xs ++ ys)) ≡ filter q (filter p xs) ++ filter q (filter p ys)
twice_both p q xs ys = ap (filter q) (filter_both p xs ys) ∙ filter_both q (filter p xs) (filter p ys)

thrice_both : (p q r : Stanza → Bool) (xs ys : List Stanza) → filter r (filter q (filter p (xs ++ ys))) ≡ filter r (filter q (filter p xs)) ++ filter r (filter q (filter p ys))
thrice_both p q r xs ys = ap (filter r) (twice_both p q xs ys) ∙ filter_both r (filter q (filter p xs)) (filter q (filter p ys))

module _ (tags : Commands) (ss ts : List Stanza) where
  pub for_a-append : for_a tags (ss ++ ts) ≡ for_a tags ss ++ for_a tags ts
  for_a-append = filter_both (is_command (Some tags.a)) ss ts

  pub for_b-append : for_b tags (ss ++ ts) ≡ for_b tags ss ++ for_b tags ts
  for_b-append = twice_both (λ s. not (is_command (Some tags.a) s)) (is_command (Some tags.b)) ss ts

  pub for_c-append : for_c tags (ss ++ ts) ≡ for_c tags ss ++ for_c tags ts
  for_c-append = thrice_both (λ s. not (is_command (Some tags.a) s)) (λ s. not (is_command (Some tags.b) s)) (is_command tags.c) ss ts

  pub for_d-append : for_d tags (ss ++ ts) ≡ for_d tags ss ++ for_d tags ts
  for_d-append =
      let n_a = λ (s : Stanza). not (is_command (Some tags.a) s) in
      let n_b = λ (s : Stanza). not (is_command (Some tags.b) s) in
      let n_c = λ (s : Stanza). not (is_command tags.c s) in
      ap (filter (is_command tags.d)) (thrice_both n_a n_b n_c ss ts) ∙ filter_both (is_command tags.d) (filter n_c (filter n_b (filter n_a ss))) (filter n_c (filter n_b (filter n_a ts)))

-- what goes to a command has its tag
filter_all_at : (p : Stanza → Bool) (x : Stanza) (xs : List Stanza) (b : Bool) → p x ≡ b → AllByRecursion (λ s. p s ≡ true) (filter p xs) → AllByRecursion (λ s. p s ≡ true) (filter p (x ∷ xs))
filter_all_at p x xs true e h = rw e (e, h)
filter_all_at p x xs false e h = rw e h

filter_all : (p : Stanza → Bool) (xs : List Stanza) → AllByRecursion (λ s. p s ≡ true) (filter p xs)
filter_all p [] = tt
filter_all p (x ∷ xs) = filter_all_at p x xs (p x) refl (filter_all p xs)

-- so its closure may be called at one stanza more
pub may_next : {F A E Z : Type 0} (pre : F → Stanza → Type 0) (step : F → Stanza → Result A E → F → Type 0) (command : Option (List ℕ)) (f : F) (xs : List Stanza) (outcome : Result (Vec A Z) (Vec E Z)) (now : F) (next : Stanza)
    → MayTake pre step command f → Ran step f (filter (is_command command) xs) outcome now → is_command command next ≡ true → pre now next
may_next pre step command f xs outcome now next may ran is = may (filter (is_command command) xs) ran.0 now next ran.1 (is, filter_all (is_command command) xs)

-- a command that may be left out
pub if_asked : {F A E Z : Type 0} (step : F → Stanza → Result A E → F → Type 0) (f : F) (command : Option (List ℕ)) (ss : List Stanza) (outcome : Result (Vec A Z) (Vec E Z)) (last : F) (answer : Option (Result (Vec A Z) (Vec E Z)))
    → MatchOption command (answer ≡ None) (λ _. answer ≡ Some outcome) → Ran step f ss outcome last → AnswersIfAsked step f command ss answer
if_asked step f None ss outcome last answer h ran = h
if_asked step f (Some tag) ss outcome last answer h ran = (outcome, h, (last, ran))
