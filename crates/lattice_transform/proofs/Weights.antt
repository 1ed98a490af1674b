-- The powers of X modulo X^2 - g: X^k is even g k + odd g k·X.
use Rattle.std.proofs.Common.{◌≡◌, ℕ, zero, suc, ◌+◌, ◌*◌, ◌^◌, refl, sym, ap, ap₂, ◌∙◌, arith}
use Rattle.std.proofs.Math.Nat.{pow-succ', pow-zero}

weights : ℕ → ℕ → ℕ × ℕ
weights g zero = (1, 0)
weights g (suc k) = (g * (weights g k).1, (weights g k).0)

pub even : ℕ → ℕ → ℕ
unfolding weights
even g k = (weights g k).0

pub odd : ℕ → ℕ → ℕ
unfolding weights
odd g k = (weights g k).1

even-suc : (g k : ℕ) → even g (suc k) ≡ g * odd g k
unfolding weights even odd
even-suc g k = refl

odd-suc : (g k : ℕ) → odd g (suc k) ≡ even g k
unfolding weights even odd
odd-suc g k = refl

even-zero : (g : ℕ) → even g 0 ≡ 1
unfolding weights even
even-zero g = refl

odd-zero : (g : ℕ) → odd g 0 ≡ 0
unfolding weights odd
odd-zero g = refl

-- ---- even and odd powers

pub both-even : (g j : ℕ) → (even g (2 * j) ≡ g ^ j) × (odd g (2 * j) ≡ 0)
both-even g zero = (even-zero g ∙ sym (pow-zero g), odd-zero g)
both-even g (suc j) =
    let before : (even g (2 * j) ≡ g ^ j) × (odd g (2 * j) ≡ 0) = both-even g j in
    let next : 2 * suc j ≡ suc (suc (2 * j)) = omega arith in (
      ap (even g) next ∙ even-suc g (suc (2 * j)) ∙ ap (λ x. g * x) (odd-suc g (2 * j) ∙ before.0) ∙ sym (pow-succ' g j),
      ap (odd g) next ∙ odd-suc g (suc (2 * j)) ∙ even-suc g (2 * j) ∙ ap (λ x. g * x) before.1 ∙ omega arith,
    )

pub even-even : (g j : ℕ) → even g (2 * j) ≡ g ^ j
even-even g j = (both-even g j).0

pub odd-even : (g j : ℕ) → odd g (2 * j) ≡ 0
odd-even g j = (both-even g j).1

pub even-odd : (g j : ℕ) → even g (2 * j + 1) ≡ 0
even-odd g j =
    let next : 2 * j + 1 ≡ suc (2 * j) = omega arith in
    ap (even g) next ∙ even-suc g (2 * j) ∙ ap (λ x. g * x) (odd-even g j) ∙ omega arith

pub odd-odd : (g j : ℕ) → odd g (2 * j + 1) ≡ g ^ j
odd-odd g j =
    let next : 2 * j + 1 ≡ suc (2 * j) = omega arith in
    ap (odd g) next ∙ odd-suc g (2 * j) ∙ even-even g j

-- ---- products of powers

turned : (g a b c d : ℕ) → g * (a * b + c * d) ≡ g * c * d + g * a * b
turned g a b c d = grind arith

exchanged : (a b : ℕ) → a + b ≡ b + a
exchanged a b = omega arith

both-add : (g i j : ℕ) → (even g (i + j) ≡ even g i * even g j + g * odd g i * odd g j) × (odd g (i + j) ≡ even g i * odd g j + odd g i * even g j)
both-add g zero j =
    let start : zero + j ≡ j = omega arith in
    let e : even g 0 ≡ 1 = even-zero g in
    let o : odd g 0 ≡ 0 = odd-zero g in (
      ap (even g) start ∙ sym (ap₂ (λ x y. x * even g j + g * y * odd g j) e o ∙ omega arith),
      ap (odd g) start ∙ sym (ap₂ (λ x y. x * odd g j + y * even g j) e o ∙ omega arith),
    )
both-add g (suc i) j =
    let before : (even g (i + j) ≡ even g i * even g j + g * odd g i * odd g j) × (odd g (i + j) ≡ even g i * odd g j + odd g i * even g j) = both-add g i j in
    let next : suc i + j ≡ suc (i + j) = omega arith in (
      ap (even g) next ∙ even-suc g (i + j) ∙ ap (λ x. g * x) before.1 ∙ turned g (even g i) (odd g j) (odd g i) (even g j)
          ∙ sym (ap₂ (λ x y. x * even g j + g * y * odd g j) (even-suc g i) (odd-suc g i)),
      ap (odd g) next ∙ odd-suc g (i + j) ∙ before.0 ∙ exchanged (even g i * even g j) (g * odd g i * odd g j)
          ∙ sym (ap₂ (λ x y. x * odd g j + y * even g j) (even-suc g i) (odd-suc g i)),
    )

pub even-add : (g i j : ℕ) → even g (i + j) ≡ even g i * even g j + g * odd g i * odd g j
even-add g i j = (both-add g i j).0

pub odd-add : (g i j : ℕ) → odd g (i + j) ≡ even g i * odd g j + odd g i * even g j
odd-add g i j = (both-add g i j).1

-- X^256 is g^128
pub even-256 : (g k : ℕ) → even g (k + 256) ≡ even g k * g ^ 128
even-256 g k =
    even-add g k 256 ∙ ap₂ (λ x y. even g k * x + g * odd g k * y) (even-even g 128) (odd-even g 128) ∙ omega arith

pub odd-256 : (g k : ℕ) → odd g (k + 256) ≡ odd g k * g ^ 128
odd-256 g k =
    odd-add g k 256 ∙ ap₂ (λ x y. even g k * x + odd g k * y) (odd-even g 128) (even-even g 128) ∙ omega arith
