-- Products modulo 3329 by the quotient of one factor, which has 16 bits after the point.
use Rattle.std.proofs.Common.{◌≡◌, ℕ, ◌+◌, ◌-◌, ◌*◌, ◌/◌, ◌%◌, ◌^◌, ◌<◌, ◌≤◌, ap, ap₂, sym, ◌∙◌, arith}
use Rattle.std.proofs.Math.Nat.{mul-le-mul}
use Rattle.std.proofs.lemmas.Nat.{mul-mod_second}
use Rattle.module_lattice.specs.Ring.{minus, times}

-- a product, and the multiple of 3329 that the quotient gives
pub record IsNear (z w b : ℕ) : Type 0 where
  pub low : w * b / 65536 * 3329 ≤ z * b
  pub high : z * b < w * b / 65536 * 3329 + 6658

pub is-near : (z w b : ℕ) → z < 3329 → b < 65536 → w ≡ z * 2 ^ 16 / 3329 → IsNear z w b
is-near z w b small below is =
    let e : ℕ = z * 65536 % 3329 in
    let split : z * 65536 ≡ 3329 * w + e = omega arith in
    let rest : e ≤ 3328 = omega arith in
    let times_b : z * 65536 * b ≡ (3329 * w + e) * b = ap (λ n. n * b) split in
    let b_most : b ≤ 65535 = omega arith in
    let eb : e * b ≤ 3328 * 65535 = mul-le-mul rest b_most in
    record { low = omega arith; high = omega arith }

-- a number below 2^16 is what is left of a product less a multiple, modulo 2^16
wrapped : (p s : ℕ) → s ≤ p → p < s + 6658 → (p % 65536 + (65536 - s % 65536)) % 65536 ≡ p - s
wrapped p s low high = omega arith

-- what is left of a product as it is computed, of numbers that are equal to these
left : (z w b w2 b2 : ℕ) → z < 3329 → b < 65536 → w ≡ z * 2 ^ 16 / 3329 → w2 ≡ w → b2 ≡ b
    → (z * b % 65536 + (65536 - w2 * b2 / 65536 * 3329 % 65536)) % 65536 ≡ z * b - w * b / 65536 * 3329
left z w b w2 b2 small below is first second =
    let near : IsNear z w b = is-near z w b small below is in
    ap₂ (λ x y. (z * b % 65536 + (65536 - x * y / 65536 * 3329 % 65536)) % 65536) first second
    ∙ wrapped (z * b) (w * b / 65536 * 3329) near.low near.high

pub left-below : (z w b w2 b2 : ℕ) → z < 3329 → b < 65536 → w ≡ z * 2 ^ 16 / 3329 → w2 ≡ w → b2 ≡ b
    → (z * b % 65536 + (65536 - w2 * b2 / 65536 * 3329 % 65536)) % 65536 < 6658
left-below z w b w2 b2 small below is first second =
    let near : IsNear z w b = is-near z w b small below is in
    rw (left z w b w2 b2 small below is first second) (omega (arith, near.low, near.high))

less_multiple : (p m : ℕ) → m * 3329 ≤ p → (p - m * 3329) % 3329 ≡ p % 3329
less_multiple p m low = omega arith

pub turned-is : (z w b w2 b2 r : ℕ) → z < 3329 → b < 65536 → w ≡ z * 2 ^ 16 / 3329 → w2 ≡ w → b2 ≡ b
    → r ≡ (z * b % 65536 + (65536 - w2 * b2 / 65536 * 3329 % 65536)) % 65536 % 3329 → r ≡ z * b % 3329
turned-is z w b w2 b2 r small below is first second made =
    let near : IsNear z w b = is-near z w b small below is in
    made ∙ ap (λ x. x % 3329) (left z w b w2 b2 small below is first second) ∙ less_multiple (z * b) (w * b / 65536) near.low

-- a product with a difference that is not reduced
pub turned-difference : (z a b : ℕ) → a < 3329 → z * (b + 3329 - a) % 3329 ≡ times 3329 z (minus 3329 b a)
turned-difference z a b small =
    let same : b + 3329 - a ≡ b + (3329 - a) = omega arith in
    ap (λ x. z * x % 3329) same ∙ sym (mul-mod_second z (b + (3329 - a)) 3329)
