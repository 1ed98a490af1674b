-- Lists of 256 numbers that a loop fills place by place.
use Rattle.std.proofs.Common.{◌≡◌, ◌≢◌, ℕ, ◌+◌, ◌<◌, ◌≤◌, List, length, get_or, ◌∙◌, sym, ap, arith, map, inl, inr}
use Rattle.std.proofs.Math.ListN.{set}
use Rattle.std.proofs.lemmas.Bool.{cases_eq}
use Rattle.std.proofs.lemmas.Grind.{get_or-set_at}
use Rattle.std.specs.Simd.Lanes.{zip2}
use Rattle.std.proofs.lemmas.List.{ext_get_or, get_or_default, get_or-set_other, get_or-map, length-map, length-set}
use Rattle.std.proofs.lemmas.Simd.{length-zip2, get_or-zip2}
use Rattle.module_lattice.specs.Ring.{IsPolynomial}

-- what is below n + 1 and not n is below n
pub below_next : (k n : ℕ) → k < n + 1 → k ≢ n → k < n
below_next k n before other = omega arith

-- 256 numbers, of which each of the first n has this value, below q
pub record Filled (q : ℕ) (value : ℕ → ℕ) (n : ℕ) (out : List ℕ) : Type 0 where
  pub size : length out ≡ 256
  pub at : (k : ℕ) → k < n → get_or out k 0 ≡ value k
  pub below : (k : ℕ) → k < n → get_or out k 0 < q

-- one more place is filled
pub next : (q : ℕ) (value : ℕ → ℕ) (n : ℕ) (out : List ℕ) (x : ℕ) → n < 256 → x ≡ value n → x < q
    → Filled q value n out → Filled q value (n + 1) (set out n x)
next q value n out x inside is small filled = let within : n < length out = omega (arith, filled.size) in record {
  size = length-set out n x ∙ filled.size;
  at = λ k before. elim (cases_eq k n) [
    | inl here ↦ get_or-set_at out n k x 0 here within ∙ is ∙ ap value (sym here)
    | inr other ↦ get_or-set_other out n k x 0 other ∙ filled.at k (below_next k n before other)
  ];
  below = λ k before. elim (cases_eq k n) [
    | inl here ↦ rw (get_or-set_at out n k x 0 here within) small
    | inr other ↦ rw (get_or-set_other out n k x 0 other) (filled.below k (below_next k n before other))
  ];
}

-- a whole list of numbers below q
pub polynomial : (q : ℕ) (value : ℕ → ℕ) (n : ℕ) (out : List ℕ) → 256 ≤ n → Filled q value n out → IsPolynomial q out
polynomial q value n out all filled = record {
  size = filled.size;
  each = λ k d within. rw (get_or_default out k d 0 within) (filled.below k (omega (arith, filled.size)));
}

-- place by place of one list
pub mapped : (f : ℕ → ℕ) (q n : ℕ) (xs out : List ℕ) → 256 ≤ n → length xs ≡ 256
    → Filled q (λ k. f (get_or xs k 0)) n out → out ≡ map f xs
mapped f q n xs out all p filled = ext_get_or 0 out (map f xs) (filled.size ∙ sym p ∙ sym (length-map xs f))
    (λ k within. filled.at k (omega (arith, filled.size)) ∙ sym (get_or-map f xs k 0 0 (omega (arith, filled.size))))

-- place by place of two lists
pub zipped : (f : ℕ → ℕ → ℕ) (q n : ℕ) (xs ys out : List ℕ) → 256 ≤ n → length xs ≡ 256 → length ys ≡ 256
    → Filled q (λ k. f (get_or xs k 0) (get_or ys k 0)) n out → out ≡ zip2 f xs ys
zipped f q n xs ys out all p r filled = ext_get_or 0 out (zip2 f xs ys) (filled.size ∙ sym p ∙ sym (length-zip2 f xs ys (p ∙ sym r)))
    (λ k within. filled.at k (omega (arith, filled.size)) ∙ sym (get_or-zip2 f xs ys k 0 0 0 (omega (arith, filled.size)) (omega (arith, filled.size))))

-- ---- a list that a loop changes in its place

-- the first n numbers have their new values, below q, and the others are those of f
pub record Replaced (q : ℕ) (value : ℕ → ℕ) (f : List ℕ) (n : ℕ) (out : List ℕ) : Type 0 where
  pub filled : Filled q value n out
  pub left : (k : ℕ) → n ≤ k → get_or out k 0 ≡ get_or f k 0
