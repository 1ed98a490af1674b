-- Cases of a test, and of a list.
use Rattle.std.proofs.Common.{◌≡◌, ◌≢◌, ℕ, zero, suc, ◌<◌, Bool, true, false, cond, List, [], ◌∷◌, ◌++◌, length, get_or, Option, Some, None, refl, ap, ◌⊎◌, inl, inr, arith, eqb}
use Rattle.std.proofs.lemmas.Bool.{ne_eqb, cases_lt}
use Rattle.std.proofs.lemmas.List.{get_or_past}
use Rattle.age_format.specs.Stanza.{IsBytes}

-- which branch of a test a value is
pub chosen : {A : Type 0} (b : Bool) (x y z : A) → cond b x y ≡ z → ((b ≡ true) × (x ≡ z)) ⊎ ((b ≡ false) × (y ≡ z))
chosen true x y z e = inl (refl, e)
chosen false x y z e = inr (refl, e)

pub length_not_zero : {A : Type 0} (xs : List A) → xs ≢ [] → eqb (length xs) 0 ≡ false
length_not_zero [] h = absurd (h refl)
length_not_zero (x ∷ xs) h = ne_eqb _ _ (omega arith)

pub not_nil : {A : Type 0} (xs : List A) → eqb (length xs) 0 ≡ false → xs ≢ []
not_nil [] e h = absurd cc
not_nil (x ∷ xs) e h = cc

pub IsBytes-rest : (b : ℕ) (bytes : List ℕ) → IsBytes (b ∷ bytes) → IsBytes bytes
IsBytes-rest b bytes h i = h (suc i)

pub IsBytes-push : (xs : List ℕ) (b : ℕ) → IsBytes xs → b < 256 → IsBytes (xs ++ b ∷ [])
IsBytes-push [] b h lt zero = lt
IsBytes-push [] b h lt (suc i) = omega arith
IsBytes-push (x ∷ xs) b h lt zero = h 0
IsBytes-push (x ∷ xs) b h lt (suc i) = IsBytes-push xs b (IsBytes-rest x xs h) lt i

pub IsBytes-append_right : (xs ys : List ℕ) → IsBytes (xs ++ ys) → IsBytes ys
IsBytes-append_right [] ys h = h
IsBytes-append_right (x ∷ xs) ys h = IsBytes-append_right xs ys (IsBytes-rest x (xs ++ ys) h)

or_else : {A : Type 0} → A → Option A → A
or_else d None = d
or_else d (Some x) = x

-- the parts of a pair that was found
pub some_parts : {A B : Type 0} (a c : A) (b d : B) → ◌≡◌ {A = Option (A × B)} (Some (a, b)) (Some (c, d)) → (a ≡ c) × (b ≡ d)
unfolding or_else
some_parts {A} {B} a c b d e =
    let p : A × B = (a, b) in
    let q : A × B = (c, d) in
    let same : p ≡ q = ap (or_else p) e in
    (ap (λ (p : A × B). p.0) same, ap (λ (p : A × B). p.1) same)

-- what the type of a vector of bytes says
pub bytes_from : (xs : List ℕ) → ((i d : ℕ) → i < length xs → get_or xs i d < 256) → IsBytes xs
bytes_from xs h i =
    elim (cases_lt i (length xs)) [
      | inl lt ↦ h i 0 lt
      | inr past ↦ rw (get_or_past xs i 0 past) (omega arith)
    ]
