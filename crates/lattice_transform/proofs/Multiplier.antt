-- Compression by a multiplier in place of a division.
use Rattle.std.proofs.Common.{◌≡◌, ℕ, ◌+◌, ◌*◌, ◌/◌, ◌%◌, ◌^◌, ◌<◌, ◌≤◌, sym, ap, ◌∙◌, add-one, arith, mul-le-mul_left, pow_mono}
use Rattle.std.proofs.Math.Nat.{pow-suc}

-- 5160669 is 2^34 / 3329, rounded down
by-multiplier : (n : ℕ) → n ≤ 6815744 → (n + 1665) * 5160669 / 2 ^ 34 ≡ (2 * n + 3329) / 6658
by-multiplier n low = omega arith

pub compress-by-multiplier : (d x : ℕ) → d ≤ 11 → x < 3329
    → (x * 2 ^ d + 1665) * 5160669 / 2 ^ 34 % 2 ^ d ≡ (2 ^ (d + 1) * x + 3329) / (2 * 3329) % 2 ^ d
compress-by-multiplier d x narrow below =
    let width : 2 ^ d ≤ 2 ^ 11 = pow_mono narrow in
    let much : x * 2 ^ d ≤ x * 2048 = mul-le-mul_left x width in
    let power : 2 ^ (d + 1) ≡ 2 ^ d * 2 = ap (λ (k : ℕ). 2 ^ k) (add-one d) ∙ pow-suc 2 d in
    let twice : 2 ^ (d + 1) * x ≡ 2 * (x * 2 ^ d) = ap (λ p. p * x) power ∙ omega arith in
    ap (λ y. y % 2 ^ d) (by-multiplier (x * 2 ^ d) (omega arith) ∙ ap (λ y. (y + 3329) / 6658) (sym twice))
