-- Negation modulo q is a product by q - 1.
use Rattle.std.proofs.Common.{◌≡◌, ℕ, ◌+◌, ◌-◌, ◌*◌, ◌%◌, ◌<◌, ◌≤◌, sym, ap, ◌∙◌, arith}
use Rattle.std.proofs.Math.Nat.{add-mul, add-mul-mod_self_left, mod-eq_of_lt, mod-lt, one-mul}
use Rattle.std.proofs.lemmas.Nat.{mul-mod_second}

-- -x is (q - 1)·x
pub negative : (q x : ℕ) → 1 ≤ q → (q - x % q) % q ≡ (q - 1) * x % q
negative q x positive =
    let r : ℕ = x % q in
    let small : r < q = mod-lt x positive in
    let whole : q ≡ q - 1 + 1 = omega arith in
    let split : q * r ≡ (q - 1) * r + r = ap (λ (n : ℕ). n * r) whole ∙ add-mul (q - 1) 1 r ∙ ap (λ y. (q - 1) * r + y) (one-mul r) in
    let both : q - r + q * r ≡ (q - 1) * r + q * 1 = omega arith in
    sym (add-mul-mod_self_left (q - r) q r) ∙ ap (λ y. y % q) both ∙ add-mul-mod_self_left ((q - 1) * r) q 1
    ∙ mul-mod_second (q - 1) x q

-- (q - 1)·(q - 1) is 1
pub minus_one-square : (q : ℕ) → 1 ≤ q → (q - 1) * (q - 1) % q ≡ 1 % q
minus_one-square q positive =
    let below : q - 1 < q = omega arith in
    let one : q - (q - 1) ≡ 1 = omega arith in
    sym (negative q (q - 1) positive) ∙ ap (λ x. (q - x) % q) (mod-eq_of_lt below) ∙ ap (λ x. x % q) one
