-- Changes of two numbers each, at places that differ: butterflies, and what undoes them.
use Rattle.std.proofs.Common.{◌≡◌, ◌≢◌, ℕ, zero, suc, ◌<◌, ◌≤◌, List, length, get_or, refl, subst, sym, ap, ap₂, ◌∙◌, inl, inr, arith}
use Rattle.std.proofs.Math.ListN.{set}
use Rattle.std.proofs.lemmas.Bool.{cases_eq}
use Rattle.std.proofs.lemmas.Grind.{get_or-set_at}
use Rattle.std.proofs.lemmas.List.{get_or-set_other, length-set}

-- the places i k and j k of 128 changes
pub record AreApart (i j : ℕ → ℕ) : Type 0 where
  pub first_inside : (k : ℕ) → k < 128 → i k < 256
  pub second_inside : (k : ℕ) → k < 128 → j k < 256
  pub firsts : (k l : ℕ) → k < 128 → l < 128 → i k ≡ i l → k ≡ l
  pub seconds : (k l : ℕ) → k < 128 → l < 128 → j k ≡ j l → k ≡ l
  pub both : (k l : ℕ) → k < 128 → l < 128 → i k ≢ j l

-- what two numbers and a zeta make of each other
abbrev pub Step : Type 0
Step = ℕ → ℕ → ℕ → ℕ

-- a list whose numbers at two places were changed by p and r
abbrev pub changed : Step → Step → ℕ → ℕ → ℕ → List ℕ → List ℕ
changed p r i j z v = set (set v i (p z (get_or v i 0) (get_or v j 0))) j (r z (get_or v i 0) (get_or v j 0))

-- what the first n changes made of f
pub record Stage (p r : Step) (i j z : ℕ → ℕ) (f : List ℕ) (n : ℕ) (v : List ℕ) : Type 0 where
  pub size : length v ≡ 256
  pub first_done : (k : ℕ) → k < 128 → k < n → get_or v (i k) 0 ≡ p (z k) (get_or f (i k) 0) (get_or f (j k) 0)
  pub second_done : (k : ℕ) → k < 128 → k < n → get_or v (j k) 0 ≡ r (z k) (get_or f (i k) 0) (get_or f (j k) 0)
  pub first_left : (k : ℕ) → k < 128 → n ≤ k → get_or v (i k) 0 ≡ get_or f (i k) 0
  pub second_left : (k : ℕ) → k < 128 → n ≤ k → get_or v (j k) 0 ≡ get_or f (j k) 0

pub no_stage : (p r : Step) (i j z : ℕ → ℕ) (f : List ℕ) → length f ≡ 256 → Stage p r i j z f 0 f
no_stage p r i j z f long = record {
  size = long;
  first_done = λ k inside none. absurd (omega (arith, none));
  second_done = λ k inside none. absurd (omega (arith, none));
  first_left = λ k inside left. refl;
  second_left = λ k inside left. refl;
}

below_next : (k n : ℕ) → k < suc n → k ≢ n → k < n
below_next k n before other = omega arith

past : (k n : ℕ) → suc n ≤ k → k ≢ n
past k n left same = omega arith

-- a number at another place, and the two at the places of the change
other-place : (p r : Step) (i j x z : ℕ) (v : List ℕ) → x ≢ i → x ≢ j → get_or (changed p r i j z v) x 0 ≡ get_or v x 0
other-place p r i j x z v first second =
    let a : ℕ = p z (get_or v i 0) (get_or v j 0) in
    let b : ℕ = r z (get_or v i 0) (get_or v j 0) in
    get_or-set_other (set v i a) j x b 0 second ∙ get_or-set_other v i x a 0 first

first-place : (p r : Step) (i j z : ℕ) (v : List ℕ) → i ≢ j → i < length v → get_or (changed p r i j z v) i 0 ≡ p z (get_or v i 0) (get_or v j 0)
first-place p r i j z v apart inside =
    let a : ℕ = p z (get_or v i 0) (get_or v j 0) in
    let b : ℕ = r z (get_or v i 0) (get_or v j 0) in
    get_or-set_other (set v i a) j i b 0 apart ∙ get_or-set_at v i i a 0 refl inside

second-place : (p r : Step) (i j z : ℕ) (v : List ℕ) → j < length v → get_or (changed p r i j z v) j 0 ≡ r z (get_or v i 0) (get_or v j 0)
second-place p r i j z v inside =
    let a : ℕ = p z (get_or v i 0) (get_or v j 0) in
    let b : ℕ = r z (get_or v i 0) (get_or v j 0) in
    get_or-set_at (set v i a) j j b 0 refl (omega (arith, inside, length-set v i a))

length-changed : (p r : Step) (i j z : ℕ) (v : List ℕ) → length (changed p r i j z v) ≡ length v
length-changed p r i j z v =
    let a : ℕ = p z (get_or v i 0) (get_or v j 0) in
    let b : ℕ = r z (get_or v i 0) (get_or v j 0) in
    length-set (set v i a) j b ∙ length-set v i a

pub next_stage : (p r : Step) (i j z : ℕ → ℕ) (f : List ℕ) (n : ℕ) (v : List ℕ) → AreApart i j → n < 128 → Stage p r i j z f n v
    → Stage p r i j z f (suc n) (changed p r (i n) (j n) (z n) v)
next_stage p r i j z f n v are inside so_far =
    let here : i n < length v = omega (arith, are.first_inside n inside, so_far.size) in
    let there : j n < length v = omega (arith, are.second_inside n inside, so_far.size) in
    let a : get_or v (i n) 0 ≡ get_or f (i n) 0 = so_far.first_left n inside (omega arith) in
    let b : get_or v (j n) 0 ≡ get_or f (j n) 0 = so_far.second_left n inside (omega arith) in
    let w : List ℕ = changed p r (i n) (j n) (z n) v in
    record {
      size = length-changed p r (i n) (j n) (z n) v ∙ so_far.size;
      first_done = λ k k_inside done. elim (cases_eq k n) [
        | inl same ↦
            ap (λ (k : ℕ). get_or w (i k) 0) same
            ∙ first-place p r (i n) (j n) (z n) v (are.both n n inside inside) here
            ∙ ap₂ (p (z n)) a b
            ∙ ap (λ (k : ℕ). p (z k) (get_or f (i k) 0) (get_or f (j k) 0)) (sym same)
        | inr other ↦
            other-place p r (i n) (j n) (i k) (z n) v (λ e. other (are.firsts k n k_inside inside e)) (are.both k n k_inside inside)
            ∙ so_far.first_done k k_inside (below_next k n done other)
      ];
      second_done = λ k k_inside done. elim (cases_eq k n) [
        | inl same ↦
            ap (λ (k : ℕ). get_or w (j k) 0) same
            ∙ second-place p r (i n) (j n) (z n) v there
            ∙ ap₂ (r (z n)) a b
            ∙ ap (λ (k : ℕ). r (z k) (get_or f (i k) 0) (get_or f (j k) 0)) (sym same)
        | inr other ↦
            other-place p r (i n) (j n) (j k) (z n) v (λ e. are.both n k inside k_inside (sym e)) (λ e. other (are.seconds k n k_inside inside e))
            ∙ so_far.second_done k k_inside (below_next k n done other)
      ];
      first_left = λ k k_inside left.
          other-place p r (i n) (j n) (i k) (z n) v (λ e. past k n left (are.firsts k n k_inside inside e)) (are.both k n k_inside inside)
          ∙ so_far.first_left k k_inside (omega (arith, left));
      second_left = λ k k_inside left.
          other-place p r (i n) (j n) (j k) (z n) v (λ e. are.both n k inside k_inside (sym e)) (λ e. past k n left (are.seconds k n k_inside inside e))
          ∙ so_far.second_left k k_inside (omega (arith, left));
    }

-- lists of which each is made of the one before by a change
pub all_stages : (p r : Step) (i j z : ℕ → ℕ) (b : ℕ → List ℕ) → AreApart i j → length (b 0) ≡ 256
    → ((n : ℕ) → b (suc n) ≡ changed p r (i n) (j n) (z n) (b n)) → (n : ℕ) → n ≤ 128 → Stage p r i j z (b 0) n (b n)
all_stages p r i j z b are long next zero low = no_stage p r i j z (b 0) long
all_stages p r i j z b are long next (suc n) low =
    subst (Stage p r i j z (b 0) (suc n)) (sym (next n))
    (next_stage p r i j z (b 0) n (b n) are (omega arith) (all_stages p r i j z b are long next n (omega arith)))
