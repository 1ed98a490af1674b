-- Products of pairs are polynomials: a proof that an `impl` cites, and no definition.
use Rattle.std.proofs.Common.{ℕ, ◌%◌, ◌+◌, ◌*◌, ◌<◌, List, [], ◌∷◌, subst, sym, arith}
use Rattle.std.specs.Prelude.{All, slice_index}
use Rattle.std.specs.List.{flat_map, range_with_len}
use Rattle.std.proofs.Math.Nat.{mod-lt}
use Rattle.std.proofs.lemmas.List.Concat.{flat_map-cons, length-flat_map}
use Rattle.std.proofs.lemmas.List.Elements.{All-append, All-cons, All-nil}
use Rattle.module_lattice.specs.Ring.{IsPolynomial}
use Rattle.module_lattice.specs.Pairs.{gamma, pair_product, pair_products}

-- a remainder is below 3329
pub mod-below : (n : ℕ) → n % 3329 < 3329
mod-below n = mod-lt n (omega arith)

-- both numbers of a pair are below 3329
pub All-pair_product : (f g : List ℕ) (i : ℕ) → All (λ x. x < 3329) (pair_product f g i)
All-pair_product f g i =
    let a0 = slice_index f (2 * i) in
    let a1 = slice_index f (2 * i + 1) in
    let b0 = slice_index g (2 * i) in
    let b1 = slice_index g (2 * i + 1) in
    let constant = a0 * b0 + a1 * b1 * gamma i in
    let linear = a0 * b1 + a1 * b0 in
    All-cons (λ x. x < 3329) (constant % 3329) (linear % 3329 ∷ []) (mod-below constant)
    (All-cons (λ x. x < 3329) (linear % 3329) [] (mod-below linear) (All-nil (λ x. x < 3329)))

-- all numbers of such pairs are below 3329
pub All-pairs : (h : ℕ → List ℕ) (places : List ℕ) → ((i : ℕ) → All (λ x. x < 3329) (h i)) → All (λ x. x < 3329) (flat_map h places)
All-pairs h [] each = All-nil (λ x. x < 3329)
All-pairs h (i ∷ places) each =
    subst (λ (xs : List ℕ). All (λ x. x < 3329) xs) (sym (flat_map-cons h i places))
    (All-append (λ x. x < 3329) (h i) (flat_map h places) (each i) (All-pairs h places each))

-- a product of pairs is a polynomial
pub IsPolynomial-pair_products : (f g : List ℕ) → IsPolynomial 3329 f → IsPolynomial 3329 g → IsPolynomial 3329 (pair_products f g)
unfolding pair_products
IsPolynomial-pair_products f g p q = record {
  size = length-flat_map (pair_product f g) (range_with_len 0 128);
  each = All-pairs (pair_product f g) (range_with_len 0 128) (All-pair_product f g);
}
