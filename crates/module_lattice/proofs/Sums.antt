-- Sums of products of pairs that are reduced at their end.
use Rattle.std.proofs.Common.{◌≡◌, ℕ, zero, suc, ◌+◌, ◌-◌, ◌*◌, ◌%◌, ◌<◌, ◌≤◌, List, [], ◌∷◌, ◌++◌, All, length, get_or, replicate, slice_index, refl, sym, ap, ap₂, ◌∙◌, arith, inl, inr}
use Rattle.std.specs.List.{flat_map, range_with_len}
use Rattle.std.specs.Simd.Lanes.{zip2}
use Rattle.std.proofs.Math.ListN.{set}
use Rattle.std.proofs.Math.Nat.{add-mod, add-mod-mod, add-mul, add-mul-mod_self_right}
use Rattle.std.proofs.lemmas.Nat.{mul-mod_first}
use Rattle.std.proofs.lemmas.Bool.{cases_eq, cases_lt}
use Rattle.std.proofs.lemmas.Bool.Decides.{nat_tests}
use Rattle.std.proofs.lemmas.Grind.{get_or-set_at}
use Rattle.std.proofs.lemmas.List.{get_or-set_other, length-replicate, length-set}
use Rattle.std.proofs.lemmas.List.Concat.{flat_map-cons}
use Rattle.std.proofs.lemmas.List.Elements.{All-cons, All-nil, All-replicate, All-set}
use Rattle.module_lattice.specs.Groups.{reduced_once}
use Rattle.module_lattice.specs.Ring.{plus, sum}
use Rattle.module_lattice.specs.Pairs.{gamma, pair_products, reduced_pair, reduced_pairs, IsSums}
use Rattle.module_lattice.specs.private.PairLaws.{mod-below}
use Rattle.module_lattice.proofs.Places.{below_next}

-- 128 sums, of which each of the first n took its value
pub record Grown (value : ℕ → ℕ) (before : List ℕ) (n : ℕ) (after : List ℕ) : Type 0 where
  pub sums : IsSums after
  pub done : (k : ℕ) → k < n → get_or after k 0 % 3329 ≡ (get_or before k 0 + value k) % 3329
  pub left : (k : ℕ) → n ≤ k → get_or after k 0 ≡ get_or before k 0

-- none did at first
pub grown_none : (value : ℕ → ℕ) (before : List ℕ) → IsSums before → Grown value before 0 before
grown_none value before sums = record {
  sums = sums;
  done = λ k lt. absurd (omega arith);
  left = λ k le. refl;
}

-- one more
pub grown_more : (value : ℕ → ℕ) (before : List ℕ) (n : ℕ) (after : List ℕ) (x : ℕ) → n < 128 → x % 3329 ≡ (get_or after n 0 + value n) % 3329 → x < 1745354752
    → Grown value before n after → Grown value before (n + 1) (set after n x)
grown_more value before n after x inside is small grown =
    let within : n < length after = omega (arith, grown.sums.size) in
    record {
      sums = record {
        size = length-set after n x ∙ grown.sums.size;
        each = All-set (λ y. y < 1745354752) after n x small grown.sums.each;
      };
      done = λ k lt. elim (cases_eq k n) [
        | inl here ↦ ap (λ y. y % 3329) (get_or-set_at after n k x 0 here within) ∙ is
            ∙ ap (λ y. (y + value n) % 3329) (grown.left n (omega arith)) ∙ ap (λ j. (get_or before j 0 + value j) % 3329) (sym here)
        | inr other ↦ ap (λ y. y % 3329) (get_or-set_other after n k x 0 other) ∙ grown.done k (below_next k n lt other)
      ];
      left = λ k le. get_or-set_other after n k x 0 (λ same. absurd (omega arith)) ∙ grown.left k (omega arith);
    }

-- the constant of a pair, with a product more
constant_added : (c c0 p s s0 m g : ℕ) → c % 3329 ≡ (c0 + p) % 3329 → s % 3329 ≡ (s0 + m) % 3329
    → (c + s * g) % 3329 ≡ ((c0 + s0 * g) % 3329 + (p + m * g) % 3329) % 3329
constant_added c c0 p s s0 m g first second =
    let apart : c0 + p + (s0 + m) * g ≡ c0 + s0 * g + (p + m * g) = ap (λ n. c0 + p + n) (add-mul s0 m g) ∙ omega arith in
    add-mod c (s * g) 3329
    ∙ ap (λ n. (n + s * g % 3329) % 3329) first
    ∙ ap (λ n. ((c0 + p) % 3329 + n) % 3329) (sym (mul-mod_first s g 3329) ∙ ap (λ n. n * g % 3329) second ∙ mul-mod_first (s0 + m) g 3329)
    ∙ sym (add-mod (c0 + p) ((s0 + m) * g) 3329)
    ∙ ap (λ n. n % 3329) apart
    ∙ add-mod (c0 + s0 * g) (p + m * g) 3329

-- pairs item by item
pairs_zipped : (f : ℕ → ℕ → ℕ) (h : ℕ → List ℕ) (x y u v : ℕ → ℕ) (a n : ℕ) → ((k : ℕ) → k < a + n → h k ≡ f (x k) (u k) ∷ f (y k) (v k) ∷ [])
    → flat_map h (range_with_len a n) ≡ zip2 f (flat_map (λ k. x k ∷ y k ∷ []) (range_with_len a n)) (flat_map (λ k. u k ∷ v k ∷ []) (range_with_len a n))
pairs_zipped f h x y u v a zero each = refl
pairs_zipped f h x y u v a (suc n) each =
    let rest : List ℕ = range_with_len (a + 1) n in
    flat_map-cons h a rest
    ∙ ap₂ (λ p t. p ++ t) (each a (omega arith)) (pairs_zipped f h x y u v (a + 1) n (λ k lt. each k (omega arith)))
    ∙ sym (ap₂ (zip2 f) (flat_map-cons (λ k. x k ∷ y k ∷ []) a rest) (flat_map-cons (λ k. u k ∷ v k ∷ []) a rest))

-- all pairs took their products
pub all_grown : (f g c0 l0 s0 c l s : List ℕ) (n : ℕ) → 128 ≤ n
    → Grown (λ k. slice_index f (2 * k) * slice_index g (2 * k)) c0 n c
    → Grown (λ k. slice_index f (2 * k) * slice_index g (2 * k + 1) + slice_index f (2 * k + 1) * slice_index g (2 * k)) l0 n l
    → Grown (λ k. slice_index f (2 * k + 1) * slice_index g (2 * k + 1)) s0 n s
    → reduced_pairs c l s ≡ sum 3329 (reduced_pairs c0 l0 s0) (pair_products f g)
unfolding reduced_pairs pair_products
all_grown f g c0 l0 s0 c l s n all constants linears squares =
    pairs_zipped (plus 3329) (reduced_pair c l s)
    (λ k. (slice_index c0 k + slice_index s0 k * gamma k) % 3329) (λ k. slice_index l0 k % 3329)
    (λ k. (slice_index f (2 * k) * slice_index g (2 * k) + slice_index f (2 * k + 1) * slice_index g (2 * k + 1) * gamma k) % 3329)
    (λ k. (slice_index f (2 * k) * slice_index g (2 * k + 1) + slice_index f (2 * k + 1) * slice_index g (2 * k)) % 3329)
    0 128
    (λ k lt. ap₂ (λ (a b : ℕ). a ∷ b ∷ [])
    (constant_added (slice_index c k) (slice_index c0 k) (slice_index f (2 * k) * slice_index g (2 * k))
    (slice_index s k) (slice_index s0 k) (slice_index f (2 * k + 1) * slice_index g (2 * k + 1)) (gamma k)
    (constants.done k (omega arith)) (squares.done k (omega arith)))
    (linears.done k (omega arith) ∙ add-mod (slice_index l0 k) (slice_index f (2 * k) * slice_index g (2 * k + 1) + slice_index f (2 * k + 1) * slice_index g (2 * k)) 3329))

-- a product of two factors in halves
pub linear_added : (x a0 b1 a1 b0 half out : ℕ) → half % 3329 ≡ (x + a0 * b1) % 3329 → out % 3329 ≡ (half + a1 * b0) % 3329
    → out % 3329 ≡ (x + (a0 * b1 + a1 * b0)) % 3329
linear_added x a0 b1 a1 b0 half out first second =
    let apart : x + a0 * b1 + a1 * b0 ≡ x + (a0 * b1 + a1 * b0) = omega arith in
    second ∙ add-mod half (a1 * b0) 3329 ∙ ap (λ n. (n + a1 * b0 % 3329) % 3329) first
    ∙ sym (add-mod (x + a0 * b1) (a1 * b0) 3329) ∙ ap (λ n. n % 3329) apart

-- the factors of a product by other names
pub factors : (x a b a2 b2 out : ℕ) → out % 3329 ≡ (x + a * b) % 3329 → a ≡ a2 → b ≡ b2 → out % 3329 ≡ (x + a2 * b2) % 3329
factors x a b a2 b2 out is first second = is ∙ ap₂ (λ (n m : ℕ). (x + n * m) % 3329) first second

-- 2^19·3329 is subtracted from what reaches it
below : (q x : ℕ) → x < q → reduced_once q x ≡ x
below q x lt = grind (arith, nat_tests)

above : (q x : ℕ) → q ≤ x → reduced_once q x ≡ x - q
above q x le = grind (arith, nat_tests)

taken_back : (x y : ℕ) → y ≡ x - 1745354752 → 1745354752 ≤ x → y % 3329 ≡ x % 3329
taken_back x y is high =
    let apart : x ≡ y + 524288 * 3329 = omega arith in
    sym (ap (λ n. n % 3329) apart ∙ add-mul-mod_self_right y 524288 3329)

pub folded : (x out : ℕ) → out ≡ reduced_once 1745354752 x → out % 3329 ≡ x % 3329
folded x out is = elim (cases_lt x 1745354752) [
  | inl low ↦ ap (λ n. n % 3329) (is ∙ below 1745354752 x low)
  | inr high ↦ taken_back x out (is ∙ above 1745354752 x high) high
]

-- a number is reduced before a product and after it, or once
pub turned_once : (c s g : ℕ) → (c + s % 3329 * g) % 3329 ≡ (c + s * g) % 3329
turned_once c s g =
    sym (add-mod-mod c (s % 3329 * g) 3329) ∙ ap (λ n. (c + n) % 3329) (mul-mod_first s g 3329) ∙ add-mod-mod c (s * g) 3329

-- both numbers of a reduced pair are below 3329
pub All-reduced_pair : (c l s : List ℕ) (k : ℕ) → All (λ x. x < 3329) (reduced_pair c l s k)
All-reduced_pair c l s k =
    let constant = slice_index c k + slice_index s k * gamma k in
    let linear = slice_index l k in
    All-cons (λ x. x < 3329) (constant % 3329) (linear % 3329 ∷ []) (mod-below constant)
    (All-cons (λ x. x < 3329) (linear % 3329) [] (mod-below linear) (All-nil (λ x. x < 3329)))

-- no products
pub IsSums-zeros : IsSums (replicate 128 0)
IsSums-zeros = record { size = length-replicate {A = ℕ} 128 0; each = All-replicate (λ x. x < 1745354752) 128 0 (omega arith) }

pub reduced_pairs-zeros : reduced_pairs (replicate 128 0) (replicate 128 0) (replicate 128 0) ≡ replicate 256 0
unfolding reduced_pairs gamma
reduced_pairs-zeros = refl
