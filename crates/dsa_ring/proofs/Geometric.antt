-- The sum of the first powers of a number, as a product.
use Rattle.std.proofs.Common.{◌≡◌, ℕ, zero, suc, ◌+◌, ◌*◌, ◌%◌, ◌^◌, refl, sym, ap, ap₂, ◌∙◌, arith}
use Rattle.std.proofs.Math.Nat.{pow-succ', pow-zero}
use Rattle.std.proofs.lemmas.Nat.{pow-add}
use Rattle.lattice_transform.proofs.Powers.{pow-one, pow-pow, power-mod}
use Rattle.lattice_transform.proofs.Sums.{over, over-pairs, over-same, over-suc, over-times, plus-mod, times-mod}

-- (1 + x)·(1 + x^2)·(1 + x^4)·.., of d factors
abbrev pub doubled : ℕ → ℕ → ℕ
doubled zero x = 1
doubled (suc d) x = (1 + x) * doubled d (x ^ 2)

two-powers : (x j : ℕ) → x ^ (2 * j) + x ^ (2 * j + 1) ≡ (1 + x) * (x ^ 2) ^ j
two-powers x j =
    let square : x ^ (2 * j) ≡ (x ^ 2) ^ j = sym (pow-pow x 2 j) in
    let next : x ^ (2 * j + 1) ≡ (x ^ 2) ^ j * x = pow-add x (2 * j) 1 ∙ ap₂ (λ a b. a * b) square (pow-one x) in
    ap₂ (λ a b. a + b) square next ∙ omega arith

-- the sum of the first 2^d powers
pub over-powers : (d x : ℕ) → over 0 (2 ^ d) (λ j. x ^ j) ≡ doubled d x
over-powers zero x =
    let one : over 0 1 (λ j. x ^ j) ≡ x ^ 0 + over 1 0 (λ j. x ^ j) = over-suc 0 0 (λ j. x ^ j) in
    one ∙ ap (λ y. y + 0) (pow-zero x)
over-powers (suc d) x =
    ap (λ (n : ℕ). over 0 n (λ j. x ^ j)) (pow-succ' 2 d)
    ∙ over-pairs 0 (2 ^ d) (λ j. x ^ j)
    ∙ over-same 0 (2 ^ d) (λ j. x ^ (2 * j) + x ^ (2 * j + 1)) (λ j. (1 + x) * (x ^ 2) ^ j) (λ j low high. two-powers x j)
    ∙ over-times 0 (2 ^ d) (1 + x) (λ j. (x ^ 2) ^ j)
    ∙ ap (λ y. (1 + x) * y) (over-powers d (x ^ 2))

pub doubled-mod : (q d x y : ℕ) → x % q ≡ y % q → doubled d x % q ≡ doubled d y % q
doubled-mod q zero x y same = refl
doubled-mod q (suc d) x y same =
    times-mod q (1 + x) (1 + y) (doubled d (x ^ 2)) (doubled d (y ^ 2)) (plus-mod q 1 1 x y refl same)
    (doubled-mod q d (x ^ 2) (y ^ 2) (power-mod q x y 2 same))
