-- A loop over two lists, place by place: an assignment or a selection by a choice, and a comparison.
use Rattle.std.proofs.Common.{◌≡◌, ℕ, zero, suc, ◌+◌, ◌<◌, Bool, true, false, if◌then◌else◌, ◌&&◌, nat_eq, List, [], ◌∷◌, ◌++◌, length, get_or, take, drop, refl, sym, ap, ap₂, ◌∙◌, inl, inr, arith, add-one, min}
use Rattle.std.proofs.Math.ListN.{set}
use Rattle.std.proofs.Math.Seq.{take-length, drop-length}
use Rattle.std.proofs.Math.Bool.{and_assoc, and-true}
use Rattle.std.proofs.lemmas.List.{set-get_or, append-nil}
use Rattle.std.proofs.lemmas.Bool.{cases_eq, eq-eqb, ne_eqb, false_from_ne_true}
use Rattle.std.specs.Cmp.Lexicographic.{pointwise}
use lib.Pointwise.{pointwise_long}

-- the list after i places have been taken from `from`, where the choice is true
abbrev pub chosen_up_to : {X : Type 0} → Bool → ℕ → List X → List X → List X
chosen_up_to choice i before from = if choice then take i from ++ drop i before else before

-- one more place is taken
pub set-front : {X : Type 0} (from before : List X) (i : ℕ) (x : X) → length from ≡ length before → i < length before → x ≡ get_or from i x
    → set (take i from ++ drop i before) i x ≡ take (suc i) from ++ drop (suc i) before
set-front [] [] i x e p q = absurd (omega arith)
set-front [] (y ∷ before) i x e p q = absurd (omega arith)
set-front (a ∷ from) [] i x e p q = absurd (omega arith)
set-front (a ∷ from) (b ∷ before) zero x e p q = ap (λ z. z ∷ before) q
set-front (a ∷ from) (b ∷ before) (suc i) x e p q = ap (λ zs. a ∷ zs) (set-front from before i x (omega arith) (omega arith) q)

pub set-chosen : {X : Type 0} (choice : Bool) (i : ℕ) (before from : List X) (x y z : X) → length from ≡ length before → i < length before
    → x ≡ get_or from i x → (choice ≡ false → y ≡ get_or before i y) → z ≡ (if choice then x else y)
    → set (chosen_up_to choice i before from) i z ≡ chosen_up_to choice (i + 1) before from
set-chosen true i before from x y z e p q r s =
    ap (set (take i from ++ drop i before) i) s ∙ set-front from before i x e p q ∙ ap (λ n. take n from ++ drop n before) (sym (add-one i))
set-chosen false i before from x y z e p q r s = ap (set before i) (s ∙ r refl) ∙ set-get_or before i y

-- all places are taken
pub chosen_up_to-all : {X : Type 0} (choice : Bool) (i : ℕ) (before from : List X) → length from ≡ length before → i ≡ length before
    → chosen_up_to choice i before from ≡ (if choice then from else before)
chosen_up_to-all true i before from e p =
    ap (λ n. take n from ++ drop n before) p ∙ ap (λ l. take (length before) from ++ l) (drop-length before)
    ∙ append-nil (take (length before) from) ∙ ap (λ n. take n from) (sym e) ∙ take-length from
chosen_up_to-all false i before from e p = refl

-- no place is taken yet
pub chosen_up_to-none : {X : Type 0} (choice : Bool) (before from : List X) → before ≡ chosen_up_to choice 0 before from
chosen_up_to-none true before from = refl
chosen_up_to-none false before from = refl

module _ {X : Type 0} (E : X → X → Bool) where
  -- one more place is compared
  pub pointwise-take-suc : (xs ys : List X) (i : ℕ) (x y : X) → i < length xs → i < length ys → x ≡ get_or xs i x → y ≡ get_or ys i y
      → pointwise E (take (suc i) xs) (take (suc i) ys) ≡ (pointwise E (take i xs) (take i ys) && E x y)
  pointwise-take-suc [] ys i x y p q r s = absurd (omega arith)
  pointwise-take-suc (a ∷ xs) [] i x y p q r s = absurd (omega arith)
  pointwise-take-suc (a ∷ xs) (b ∷ ys) zero x y p q r s = and-true (E a b) ∙ ap₂ E (sym r) (sym s)
  pointwise-take-suc (a ∷ xs) (b ∷ ys) (suc i) x y p q r s =
      ap (λ t. E a b && t) (pointwise-take-suc xs ys i x y (omega arith) (omega arith) r s)
      ∙ sym (and_assoc (E a b) (pointwise E (take i xs) (take i ys)) (E x y))

  pub pointwise-take-more : (lengths equal answer next : Bool) (xs ys : List X) (i : ℕ) (x y : X) → i < length xs → i < length ys → x ≡ get_or xs i x → y ≡ get_or ys i y
      → equal ≡ (lengths && pointwise E (take i xs) (take i ys)) → answer ≡ E x y → next ≡ (equal && answer)
      → next ≡ (lengths && pointwise E (take (i + 1) xs) (take (i + 1) ys))
  pointwise-take-more lengths equal answer next xs ys i x y p q r s so_far here step =
      step ∙ ap₂ ◌&&◌ so_far here ∙ and_assoc lengths (pointwise E (take i xs) (take i ys)) (E x y)
      ∙ ap (λ t. lengths && t) (sym (pointwise-take-suc xs ys i x y p q r s) ∙ ap (λ n. pointwise E (take n xs) (take n ys)) (sym (add-one i)))

  -- the lengths and the places of the shorter list have been compared
  pub pointwise-take-min : (xs ys : List X) → (nat_eq (length xs) (length ys) && pointwise E (take (min (length xs) (length ys)) xs) (take (min (length xs) (length ys)) ys)) ≡ pointwise E xs ys
  pointwise-take-min xs ys = elim (cases_eq (length xs) (length ys)) [
    | inl e ↦
        let whole_xs : take (min (length xs) (length ys)) xs ≡ xs = ap (λ n. take n xs) (omega arith) ∙ take-length xs in
        let whole_ys : take (min (length xs) (length ys)) ys ≡ ys = ap (λ n. take n ys) (omega arith) ∙ take-length ys in
        ap₂ ◌&&◌ (eq-eqb (length xs) (length ys) e) (ap₂ (pointwise E) whole_xs whole_ys)
    | inr e ↦ ap (λ b. b && pointwise E (take (min (length xs) (length ys)) xs) (take (min (length xs) (length ys)) ys)) (ne_eqb (length xs) (length ys) e)
        ∙ sym (false_from_ne_true (pointwise E xs ys) (λ h. e (pointwise_long E xs ys h)))
  ]
