-- Lists of 256 numbers that a loop fills place by place.
use Rattle.std.proofs.Common.{◌≡◌, ◌≢◌, ℕ, ◌+◌, ◌<◌, ◌≤◌, List, length, get_or, map, refl, sym, ap, ◌∙◌, arith, inl, inr}
use Rattle.std.proofs.Math.ListN.{set}
use Rattle.std.proofs.lemmas.Bool.{cases_eq}
use Rattle.std.proofs.lemmas.Grind.{get_or-set_at}
use Rattle.std.proofs.lemmas.List.{ext_get_or, get_or-map, get_or-set_other, length-map, length-set}

below_next : (k n : ℕ) → k < n + 1 → k ≢ n → k < n
below_next k n before other = omega arith

-- 256 numbers, of which each of the first n has this value
pub record Filled (value : ℕ → ℕ) (n : ℕ) (out : List ℕ) : Type 0 where
  pub size : length out ≡ 256
  pub at : (k : ℕ) → k < n → get_or out k 0 ≡ value k

-- before the first
pub filled-none : (value : ℕ → ℕ) (out : List ℕ) → length out ≡ 256 → Filled value 0 out
filled-none value out long = record {
  size = long;
  at = λ k none. absurd (omega (arith, none));
}

-- one place more
pub filled-next : (value : ℕ → ℕ) (n x : ℕ) (out : List ℕ) → n < 256 → x ≡ value n → Filled value n out → Filled value (n + 1) (set out n x)
filled-next value n x out inside is filled = let within : n < length out = omega (arith, filled.size) in record {
  size = length-set out n x ∙ filled.size;
  at = λ k before. elim (cases_eq k n) [
    | inl here ↦ get_or-set_at out n k x 0 here within ∙ is ∙ ap value (sym here)
    | inr other ↦ get_or-set_other out n k x 0 other ∙ filled.at k (below_next k n before other)
  ];
}

-- the numbers of a list
pub filled-same : (n : ℕ) (f out : List ℕ) → 256 ≤ n → length f ≡ 256 → Filled (λ k. get_or f k 0) n out → out ≡ f
filled-same n f out all long filled = ext_get_or 0 out f (filled.size ∙ sym long) (λ k inside. filled.at k (omega (arith, inside, filled.size)))

-- ---- a list whose numbers a loop replaces

-- the first n numbers are functions of those of f, and the others are those of f
pub record Replaced (g : ℕ → ℕ) (f : List ℕ) (n : ℕ) (out : List ℕ) : Type 0 where
  pub filled : Filled (λ k. g (get_or f k 0)) n out
  pub left : (k : ℕ) → n ≤ k → get_or out k 0 ≡ get_or f k 0

pub replaced-none : (g : ℕ → ℕ) (f : List ℕ) → length f ≡ 256 → Replaced g f 0 f
replaced-none g f long = record { filled = filled-none (λ k. g (get_or f k 0)) f long; left = λ k low. refl }

apart : (k n : ℕ) → n + 1 ≤ k → k ≢ n
apart k n low same = omega arith

pub replaced-next : (g : ℕ → ℕ) (f : List ℕ) (n x : ℕ) (out : List ℕ) → n < 256 → x ≡ g (get_or out n 0) → Replaced g f n out → Replaced g f (n + 1) (set out n x)
replaced-next g f n x out inside is replaced = record {
  filled = filled-next (λ k. g (get_or f k 0)) n x out inside (is ∙ ap g (replaced.left n (omega arith))) replaced.filled;
  left = λ k low. get_or-set_other out n k x 0 (apart k n low) ∙ replaced.left k (omega arith);
}

pub replaced-all : (g : ℕ → ℕ) (f : List ℕ) (n : ℕ) (out : List ℕ) → 256 ≤ n → length f ≡ 256 → Replaced g f n out → out ≡ map g f
replaced-all g f n out all long replaced = ext_get_or 0 out (map g f) (replaced.filled.size ∙ sym long ∙ sym (length-map f g))
    (λ k inside. replaced.filled.at k (omega (arith, inside, replaced.filled.size)) ∙ sym (get_or-map g f k 0 0 (omega (arith, inside, replaced.filled.size, long))))
