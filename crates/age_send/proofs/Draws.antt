-- A list that is drawn value by value.
use Rattle.std.proofs.Common.{◌≡◌, ◌≢◌, ◌<◌, ℕ, zero, suc, List, [], ◌∷◌, ◌++◌, map, Result, Ok, Err, refl, sym, ap, ◌∙◌, append_assoc, arith}
use Rattle.std.specs.Prelude.{IfOk, IsOkAnd}
use Rattle.std.specs.List.{AllByRecursion}
use Rattle.std.proofs.lemmas.List.{append-nil, map_push}
use Rattle.rand_core.specs.Stream.{Stream}
use Rattle.age_send.specs.Grease.{Drawn, drawn_list}

-- these values were drawn, and so many are left
pub record Drawing {A : Type 0} (draw : Stream → Drawn A) (n : ℕ) (before : Stream) (got : List A) (left : ℕ) (now : Stream) : Type 0 where
  pub values : (drawn_list draw n before).0 ≡ got ++ (drawn_list draw left now).0
  pub rest : (drawn_list draw n before).1 ≡ (drawn_list draw left now).1

module _ {A : Type 0} (draw : Stream → Drawn A) (n : ℕ) (before : Stream) where
  pub drawing_none : Drawing draw n before [] n before
  drawing_none = record { values = refl; rest = refl }

  pub drawing_more : (got : List A) (left : ℕ) (now next : Stream) (x : A) → Drawing draw n before got (suc left) now → (x, next) ≡ draw now → Drawing draw n before (got ++ x ∷ []) left next
  unfolding drawn_list
  drawing_more got left now next x h e = record {
    values = h.values ∙ (rw (← e) (sym (append_assoc got (x ∷ []) (drawn_list draw left next).0)));
    rest = h.rest ∙ rw (← e) refl;
  }

  pub drawing_all : (got : List A) (now : Stream) → Drawing draw n before got 0 now → (got, now) ≡ drawn_list draw n before
  unfolding drawn_list
  drawing_all got now h =
      let values : got ≡ (drawn_list draw n before).0 = sym (h.values ∙ append-nil got) in
      ap (λ (v : List A). (v, now)) values ∙ ap (λ (s : Stream). ((drawn_list draw n before).0, s)) (sym h.rest)

-- one value more
pub all_more : {X : Type 0} (P : X → Type 0) (xs : List X) (x : X) → AllByRecursion P xs → P x → AllByRecursion P (xs ++ x ∷ [])
all_more P [] x h p = (p, tt)
all_more P (y ∷ ys) x h p = (h.0, all_more P ys x h.1 p)

-- one value more of what there was memory for
pub ok_more : {V S X E F H : Type 0} (items : V → List S) (text : S → X) (result : Result V E) (values : Result V F) (value : Result S H) (got : List X) (x : X)
    → IfOk result (λ all. IsOkAnd values (λ front. IsOkAnd value (λ last. items all ≡ items front ++ last ∷ [])))
    → IfOk values (λ front. map text (items front) ≡ got) → IfOk value (λ last. text last ≡ x) → IfOk result (λ all. map text (items all) ≡ got ++ x ∷ [])
ok_more items text (Err e) values value got x h k l = tt
ok_more items text (Ok all) (Err e) value got x h k l = absurd h
ok_more items text (Ok all) (Ok front) (Err e) got x h k l = absurd h
ok_more items text (Ok all) (Ok front) (Ok last) got x h k l =
    ap (map text) h ∙ (map_push text (items front) last ∙ (ap (λ (t : List _). t ++ text last ∷ []) k ∙ ap (λ (y : _). got ++ y ∷ []) l))

-- each value is as the draw makes it
pub drawn_list-all : {A : Type 0} (P : A → Type 0) (draw : Stream → Drawn A) → ((s : Stream) → P (draw s).0) → (n : ℕ) (s : Stream) → AllByRecursion P (drawn_list draw n s).0
unfolding drawn_list
drawn_list-all P draw h zero s = tt
drawn_list-all P draw h (suc n) s = (h s, drawn_list-all P draw h n (draw s).1)

pub drawn_list-some : {A : Type 0} (draw : Stream → Drawn A) (n : ℕ) (s : Stream) → 0 < n → (drawn_list draw n s).0 ≢ []
unfolding drawn_list
drawn_list-some draw zero s lt e = omega arith
drawn_list-some draw (suc n) s lt e = cc
