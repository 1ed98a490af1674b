-- Products of pairs.
use Rattle.std.proofs.Common.{◌≡◌, ℕ, zero, suc, ◌+◌, ◌*◌, ◌%◌, ◌^◌, ◌<◌, ◌≤◌, All, replicate, List, [], ◌∷◌, ◌++◌, length, take, get_or, slice_index, map, refl, sym, ap, ◌∙◌, append_assoc, add-one, arith}
use Rattle.std.specs.List.{flat_map, range_with_len}
use Rattle.std.proofs.Math.ListN.{set}
use Rattle.std.proofs.Math.Nat.{add-mod-mod, mod-lt}
use Rattle.std.proofs.lemmas.Nat.{mul-mod_first}
use Rattle.std.proofs.lemmas.List.Concat.{flat_map-cons, length-flat_map}
use Rattle.std.proofs.lemmas.Grind.{flat_map-append, take-set_at}
use Rattle.std.proofs.Math.Seq.{take-length}
use Rattle.std.proofs.lemmas.List.{append-nil, length-replicate, length-set}
use Rattle.std.proofs.lemmas.List.FromFn.{get_or-map-range_with_len}
use Rattle.module_lattice.specs.declared.multiply_ntt.TheConstants.{GAMMAS}
use Rattle.module_lattice.specs.Ring.{times}
use Rattle.module_lattice.specs.Pairs.{bit_rev7, gamma, pair_product, pair_products}
use Rattle.module_lattice.specs.private.PairLaws.{All-pairs}

-- the table is g, place by place
GAMMAS_is : map gamma (range_with_len 0 128) ≡ GAMMAS
unfolding gamma
GAMMAS_is = refl

pub slice_index-GAMMAS : (i : ℕ) → i < 128 → slice_index GAMMAS i ≡ gamma i
slice_index-GAMMAS i h =
    ap (λ (t : List ℕ). slice_index t i) (sym GAMMAS_is) ∙ get_or-map-range_with_len gamma 0 128 i i 0 h (omega arith)

-- each number of the table is below 3329
pub slice_index-GAMMAS-below : (i : ℕ) → i < 128 → slice_index GAMMAS i < 3329
unfolding gamma
slice_index-GAMMAS-below i h = rw (slice_index-GAMMAS i h) (mod-lt (17 ^ (2 * bit_rev7 i + 1)) (omega arith))

-- a product of three numbers is reduced behind two of them, or once
pub constant_of : (a0 a1 b0 b1 g : ℕ)
    → (a0 * b0 + times 3329 a1 b1 * g) % 3329 ≡ (a0 * b0 + a1 * b1 * g) % 3329
constant_of a0 a1 b0 b1 g =
    sym (add-mod-mod (a0 * b0) (times 3329 a1 b1 * g) 3329)
    ∙ ap (λ n. (a0 * b0 + n) % 3329) (mul-mod_first (a1 * b1) g 3329)
    ∙ add-mod-mod (a0 * b0) (a1 * b1 * g) 3329

-- one number more at the end of a range
range_with_len-suc : (a n k : ℕ) → k ≡ a + n → range_with_len a (suc n) ≡ range_with_len a n ++ k ∷ []
range_with_len-suc a zero k e = ap (λ t. t ∷ []) (omega (arith, e))
range_with_len-suc a (suc n) k e = ap (λ t. a ∷ t) (range_with_len-suc (a + 1) n k (omega (arith, e)))

-- one pair more
flat_map-range_suc : (h : ℕ → List ℕ) (i : ℕ) → flat_map h (range_with_len 0 (i + 1)) ≡ flat_map h (range_with_len 0 i) ++ h i
flat_map-range_suc h i =
    ap (λ n. flat_map h (range_with_len 0 n)) (add-one i)
    ∙ ap (flat_map h) (range_with_len-suc 0 i i (omega arith)) ∙ flat_map-append h (range_with_len 0 i) (i ∷ [])
    ∙ ap (λ t. flat_map h (range_with_len 0 i) ++ t) (flat_map-cons h i [] ∙ append-nil (h i))

-- 256 numbers, of which the first i pairs are those of h
pub record Paired (h : ℕ → List ℕ) (i : ℕ) (out : List ℕ) : Type 0 where
  pub size : length out ≡ 256
  pub done : take (2 * i) out ≡ flat_map h (range_with_len 0 i)

pub next_pair : (h : ℕ → List ℕ) (out pair : List ℕ) (i x y : ℕ) → i < 128 → pair ≡ x ∷ y ∷ [] → h i ≡ x ∷ y ∷ [] → Paired h i out
    → Paired h (i + 1) (set (set out (2 * i) (get_or pair 0 0)) (2 * i + 1) (get_or pair 1 0))
next_pair h out pair i x y inside is at before =
    let a = get_or pair 0 0 in
    let b = get_or pair 1 0 in
    record {
      size = length-set (set out (2 * i) a) (2 * i + 1) b ∙ length-set out (2 * i) a ∙ before.size;
      done =
          take-set_at (set out (2 * i) a) (2 * i + 1) (2 * (i + 1)) b (omega arith) (omega (arith, length-set out (2 * i) a, before.size))
          ∙ ap (λ t. t ++ b ∷ []) (take-set_at out (2 * i) (2 * i + 1) a refl (omega (arith, before.size)))
          ∙ append_assoc (take (2 * i) out) (a ∷ []) (b ∷ [])
          ∙ ap (λ t. t ++ a ∷ b ∷ []) before.done
          ∙ ap (λ p. flat_map h (range_with_len 0 i) ++ get_or p 0 0 ∷ get_or p 1 0 ∷ []) is
          ∙ ap (λ p. flat_map h (range_with_len 0 i) ++ p) (sym at)
          ∙ sym (flat_map-range_suc h i);
    }

-- at first no pair is there
pub none_paired : (h : ℕ → List ℕ) → Paired h 0 (replicate 256 0)
none_paired h = record { size = length-replicate {A = ℕ} 256 0; done = refl }

-- at last all pairs are there
pub all_paired : (h : ℕ → List ℕ) (i : ℕ) (out : List ℕ) → 128 ≤ i → i ≤ 128 → Paired h i out → out ≡ flat_map h (range_with_len 0 128)
all_paired h i out low high filled =
    let full : i ≡ 128 = omega arith in
    let whole : length out ≡ 2 * i = omega (arith, filled.size) in
    sym (take-length out) ∙ ap (λ n. take n out) whole ∙ filled.done
    ∙ ap (λ n. flat_map h (range_with_len 0 n)) full

pub all_multiplied : (f g : List ℕ) (i : ℕ) (out : List ℕ) → 128 ≤ i → i ≤ 128 → Paired (pair_product f g) i out → out ≡ pair_products f g
unfolding pair_products
all_multiplied f g i out low high filled = all_paired (pair_product f g) i out low high filled

-- and each number is below 3329, where those of h are
pub below_of_paired : (h : ℕ → List ℕ) (i : ℕ) (out : List ℕ) → ((k : ℕ) → All (λ x. x < 3329) (h k)) → 128 ≤ i → i ≤ 128 → Paired h i out → All (λ x. x < 3329) out
below_of_paired h i out each low high filled =
    rw (all_paired h i out low high filled) (All-pairs h (range_with_len 0 128) each)

-- how many numbers the products have
pub length-pair_products : (f g : List ℕ) → length (pair_products f g) ≡ 256
unfolding pair_products
length-pair_products f g = length-flat_map (pair_product f g) (range_with_len 0 128)
