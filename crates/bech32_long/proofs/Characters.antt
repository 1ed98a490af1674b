-- Characters, their values, and what stands round the last separator.
use Rattle.std.proofs.Common.{◌≡◌, ◌≢◌, ℕ, zero, suc, ◌+◌, ◌-◌, ◌<◌, ◌≤◌, Bool, true, false, not, List, [], ◌∷◌, ◌++◌, length, take, drop, get_or, map, All, Option, Some, None, refl, sym, ap, ◌∙◌, arith, inl, inr}
use Rattle.std.specs.Prelude.{nat_lt, ◌==◌, ◌⊎◌, position}
use Rattle.std.specs.List.{list_all, list_any, prefix_len, position_or_len}
use Rattle.std.proofs.lemmas.Bool.{cases_lt, cases_Bool, cond-true, cond-false, lt-ltb, le-ltb, ltb-true, and_parts, and_cases, both_ways}
use Rattle.std.proofs.lemmas.List.Sums.{prefix_len-le-length}
use Rattle.std.proofs.lemmas.List.Elements.{All-nil, All-cons}
use Rattle.bech32_long.specs.Text.{is_character, value_of}

-- ---- the first place

pub position-found : (p : ℕ → Bool) (xs : List ℕ) (v : ℕ) → position p xs ≡ Some v → (v ≡ position_or_len p xs) × (v < length xs)
position-found p xs v e = elim (cases_lt (position_or_len p xs) (length xs)) [
  | inl lt ↦
      let here : position p xs ≡ Some (position_or_len p xs) = cond-true (nat_lt (position_or_len p xs) (length xs)) (Some (position_or_len p xs)) None (lt-ltb (position_or_len p xs) (length xs) lt) in
      let same : v ≡ position_or_len p xs = cc in
      (same, omega arith)
  | inr ge ↦
      let none : position p xs ≡ None = cond-false (nat_lt (position_or_len p xs) (length xs)) (Some (position_or_len p xs)) None (le-ltb (position_or_len p xs) (length xs) ge) in
      cc
]

pub position-missed : (p : ℕ → Bool) (xs : List ℕ) → position p xs ≡ None → position_or_len p xs ≡ length xs
position-missed p xs e = elim (cases_lt (position_or_len p xs) (length xs)) [
  | inl lt ↦
      let here : position p xs ≡ Some (position_or_len p xs) = cond-true (nat_lt (position_or_len p xs) (length xs)) (Some (position_or_len p xs)) None (lt-ltb (position_or_len p xs) (length xs) lt) in
      cc
  | inr ge ↦ omega (arith, prefix_len-le-length (λ (x : ℕ). not (p x)) xs)
]

-- ---- a front that passes

prefix_len-not_not : (p : ℕ → Bool) (xs : List ℕ) → position_or_len (λ x. not (p x)) xs ≡ prefix_len p xs
prefix_len-not_not p [] = refl
prefix_len-not_not p (x ∷ xs) = elim (cases_Bool (p x)) [
  | inl passes ↦ rw passes (ap (λ (n : ℕ). 1 + n) (prefix_len-not_not p xs))
  | inr fails ↦ rw fails refl
]

pub list_all-from_prefix_len : (p : ℕ → Bool) (xs : List ℕ) → prefix_len p xs ≡ length xs → list_all p xs ≡ true
list_all-from_prefix_len p [] e = refl
list_all-from_prefix_len p (x ∷ xs) e = elim (cases_Bool (p x)) [
  | inl passes ↦
      let len : prefix_len p (x ∷ xs) ≡ 1 + prefix_len p xs = cond-true (p x) (1 + prefix_len p xs) 0 passes in
      rw passes (list_all-from_prefix_len p xs (omega arith))
  | inr fails ↦
      let len : prefix_len p (x ∷ xs) ≡ 0 = cond-false (p x) (1 + prefix_len p xs) 0 fails in
      absurd (omega arith)
]

pub prefix_len-from_list_all : (p : ℕ → Bool) (xs : List ℕ) → list_all p xs ≡ true → prefix_len p xs ≡ length xs
prefix_len-from_list_all p [] e = refl
prefix_len-from_list_all p (x ∷ xs) e =
    let parts : (p x ≡ true) × (list_all p xs ≡ true) = and_parts (p x) (list_all p xs) e in
    cond-true (p x) (1 + prefix_len p xs) 0 parts.0 ∙ omega (arith, prefix_len-from_list_all p xs parts.1)

-- no character fails
pub none_bad : (p : ℕ → Bool) (xs : List ℕ) → position (λ x. not (p x)) xs ≡ None → list_all p xs ≡ true
none_bad p xs e = list_all-from_prefix_len p xs (sym (prefix_len-not_not p xs) ∙ position-missed (λ (x : ℕ). not (p x)) xs e)

-- one fails, and the first is here
pub first_bad : (p : ℕ → Bool) (xs : List ℕ) (k : ℕ) → position (λ x. not (p x)) xs ≡ Some k → (list_all p xs ≡ false) × (k ≡ prefix_len p xs) × (k < length xs)
first_bad p xs k e =
    let found : (k ≡ position_or_len (λ x. not (p x)) xs) × (k < length xs) = position-found (λ (x : ℕ). not (p x)) xs k e in
    let same : k ≡ prefix_len p xs = found.0 ∙ prefix_len-not_not p xs in
    let some : list_all p xs ≡ false = elim (cases_Bool (list_all p xs)) [
      | inl all ↦ absurd (omega (arith, prefix_len-from_list_all p xs all))
      | inr none ↦ none
    ] in
    (some, same, found.1)

pub All-from_list_all : (p : ℕ → Bool) (P : ℕ → Type 0) → ((x : ℕ) → p x ≡ true → P x) → (xs : List ℕ) → list_all p xs ≡ true → All P xs
All-from_list_all p P f [] e = All-nil P
All-from_list_all p P f (x ∷ xs) e =
    let parts : (p x ≡ true) × (list_all p xs ≡ true) = and_parts (p x) (list_all p xs) e in
    All-cons P x xs (f x parts.0) (All-from_list_all p P f xs parts.1)

pub value_of-lt : (c : ℕ) → is_character c ≡ true → value_of c < 32
value_of-lt c e = ltb-true (value_of c) 32 e
