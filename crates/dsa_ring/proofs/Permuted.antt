-- A sum in another order.
use Rattle.std.proofs.Common.{◌≡◌, ℕ, ◌*◌, ◌<◌, refl, sym, ap, ◌∙◌, arith}
use Rattle.lattice_transform.proofs.Sums.{over, over-same, over-single, over-swap}
use Rattle.lattice_transform.proofs.Undo.{unit, unit-other, unit-same}

one_of : (f u : ℕ) → u ≡ 1 → f * u ≡ f
one_of f u is = ap (λ u. f * u) is ∙ omega arith

none_of : (f u : ℕ) → u ≡ 0 → f * u ≡ 0
none_of f u is = ap (λ u. f * u) is ∙ omega arith

-- b puts the places below n in another order, and is its own inverse
pub over-permuted : (n : ℕ) (b f : ℕ → ℕ) → ((i : ℕ) → i < n → b i < n) → ((i : ℕ) → i < n → b (b i) ≡ i)
    → over 0 n (λ i. f (b i)) ≡ over 0 n f
over-permuted n b f inside back =
    over-same 0 n (λ i. f (b i)) (λ i. over 0 n (λ k. f k * unit (b i) k))
    (λ i low high.
    sym (over-single 0 n (b i) (λ k. f k * unit (b i) k) (omega arith) (let there : b i < n = inside i (omega arith) in omega arith)
    (λ k k_low k_high apart. none_of (f k) (unit (b i) k) (unit-other (b i) k apart))
    ∙ one_of (f (b i)) (unit (b i) (b i)) (unit-same (b i) (b i) refl)))
    ∙ over-swap 0 n 0 n (λ i k. f k * unit (b i) k)
    ∙ over-same 0 n (λ k. over 0 n (λ i. f k * unit (b i) k)) f
    (λ k low high.
    let k_inside : k < n = omega arith in
    over-single 0 n (b k) (λ i. f k * unit (b i) k) (omega arith) (let there : b k < n = inside k k_inside in omega arith)
    (λ i i_low i_high apart.
    none_of (f k) (unit (b i) k) (unit-other (b i) k (λ same. apart (sym (back i (omega arith)) ∙ ap b (sym same)))))
    ∙ one_of (f k) (unit (b (b k)) k) (unit-same (b (b k)) k (sym (back k k_inside))))
