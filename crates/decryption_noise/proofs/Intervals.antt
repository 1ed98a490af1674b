-- The two intervals.
use Rattle.std.proofs.Common.{◌≡◌, ℕ, zero, suc, ◌-◌, ◌<◌, ◌≤◌, ◌⊎◌, inl, inr, ◌∙◌, arith}
use Rattle.std.specs.Prelude.{pos, negsuc, ◌-ℤ◌, ◌≤ℤ◌, neg_ℤ, ◌↔◌}
use Rattle.std.specs.Int.{int_rem_euclid}
use Rattle.std.proofs.lemmas.Bool.{cases_lt}
use Rattle.std.proofs.lemmas.Bool.Decides.{nat_tests}
use Rattle.std.proofs.lemmas.Int.{ints}
use Rattle.module_lattice.specs.Ring.{plus}
use Rattle.ml_kem.specs.Rounding.{compress, decompress}
use Rattle.decryption_noise.specs.Noise.{IsInside, centred}

pub centred-low : (x : ℕ) → x < 1665 → centred x ≡ pos x
centred-low x low = grind (arith, nat_tests)

pub centred-high : (x : ℕ) → 1665 ≤ x → centred x ≡ pos x -ℤ pos 3329
centred-high x high = grind (arith, nat_tests)

-- ---- centred numbers from -832 to some number

within-from : (most x : ℕ) → most ≤ 1664 → x < 3329 → (x ≤ most) ⊎ (2497 ≤ x) → (neg_ℤ (pos 832) ≤ℤ centred x) × (centred x ≤ℤ pos most)
within-from most x few low (inl below) =
    let at : centred x ≡ pos x = centred-low x (omega arith) in
    rw at (omega (arith, ints), omega (arith, ints))
within-from most x few low (inr above) =
    let at : centred x ≡ pos x -ℤ pos 3329 = centred-high x (omega arith) in
    rw at (omega (arith, ints), omega (arith, ints))

from-within : (most x : ℕ) → x < 3329 → (neg_ℤ (pos 832) ≤ℤ centred x) × (centred x ≤ℤ pos most) → (x ≤ most) ⊎ (2497 ≤ x)
from-within most x low is =
    let least : neg_ℤ (pos 832) ≤ℤ centred x = is.0 in
    let greatest : centred x ≤ℤ pos most = is.1 in
    elim (cases_lt x 1665) [
      | inl below ↦ inl (let at : centred x ≡ pos x = centred-low x below in omega (arith, ints))
      | inr above ↦ inr (let at : centred x ≡ pos x -ℤ pos 3329 = centred-high x above in omega (arith, ints))
    ]

-- ---- the numbers beside a bit at which it is read rightly

zero-right : (x : ℕ) → x < 3329 → compress 1 (plus 3329 (decompress 1 0) x) ≡ 0 → (x ≤ 832) ⊎ (2497 ≤ x)
zero-right x low right = elim (cases_lt x 833) [
  | inl below ↦ inl (omega arith)
  | inr above ↦ inr (omega arith)
]

right-zero : (x : ℕ) → x < 3329 → (x ≤ 832) ⊎ (2497 ≤ x) → compress 1 (plus 3329 (decompress 1 0) x) ≡ 0
right-zero x low (inl below) = omega arith
right-zero x low (inr above) = omega arith

one-right : (x : ℕ) → x < 3329 → compress 1 (plus 3329 (decompress 1 1) x) ≡ 1 → (x ≤ 831) ⊎ (2497 ≤ x)
one-right x low right = elim (cases_lt x 832) [
  | inl below ↦ inl (omega arith)
  | inr above ↦ inr (omega arith)
]

right-one : (x : ℕ) → x < 3329 → (x ≤ 831) ⊎ (2497 ≤ x) → compress 1 (plus 3329 (decompress 1 1) x) ≡ 1
right-one x low (inl below) = omega arith
right-one x low (inr above) = omega arith

-- ---- both

pub interval : (b x : ℕ) → b < 2 → x < 3329 → (compress 1 (plus 3329 (decompress 1 b) x) ≡ b) ↔ IsInside b (centred x)
interval zero x bit low = (λ right. within-from 832 x (omega arith) low (zero-right x low right), λ is. right-zero x low (from-within 832 x low is))
interval (suc zero) x bit low = (λ right. within-from 831 x (omega arith) low (one-right x low right), λ is. right-one x low (from-within 831 x low is))
interval (suc (suc b)) x bit low = absurd (omega arith)

-- ---- centred numbers

pub centred-least : (x : ℕ) → x < 3329 → neg_ℤ (pos 1664) ≤ℤ centred x
centred-least x low = elim (cases_lt x 1665) [
  | inl below ↦ let at : centred x ≡ pos x = centred-low x below in omega (arith, ints)
  | inr above ↦ let at : centred x ≡ pos x -ℤ pos 3329 = centred-high x above in omega (arith, ints)
]

pub centred-most : (x : ℕ) → x < 3329 → centred x ≤ℤ pos 1664
centred-most x low = elim (cases_lt x 1665) [
  | inl below ↦ let at : centred x ≡ pos x = centred-low x below in omega (arith, ints)
  | inr above ↦ let at : centred x ≡ pos x -ℤ pos 3329 = centred-high x above in omega (arith, ints)
]

pub centred-modulo : (x : ℕ) → x < 3329 → int_rem_euclid (centred x) (pos 3329) ≡ pos x
centred-modulo x low = elim (cases_lt x 1665) [
  | inl below ↦ let at : centred x ≡ pos x = centred-low x below in rw at (omega (arith, ints))
  | inr above ↦
      let at : centred x ≡ negsuc (3328 - x) = centred-high x above ∙ omega (arith, ints) in
      rw at (omega (arith, ints))
]

-- ---- the ends

pub ends-inside : IsInside 0 (pos 832) × IsInside 0 (neg_ℤ (pos 832)) × IsInside 1 (pos 831) × IsInside 1 (neg_ℤ (pos 832))
ends-inside = (
  (omega (arith, ints), omega (arith, ints)),
  (omega (arith, ints), omega (arith, ints)),
  (omega (arith, ints), omega (arith, ints)),
  (omega (arith, ints), omega (arith, ints)),
)

above-zero : IsInside 0 (pos 833) → ⊥
above-zero is = let most : pos 833 ≤ℤ pos 832 = is.1 in omega (arith, ints)

below-zero : IsInside 0 (neg_ℤ (pos 833)) → ⊥
below-zero is = let least : neg_ℤ (pos 832) ≤ℤ neg_ℤ (pos 833) = is.0 in omega (arith, ints)

above-one : IsInside 1 (pos 832) → ⊥
above-one is = let most : pos 832 ≤ℤ pos 831 = is.1 in omega (arith, ints)

below-one : IsInside 1 (neg_ℤ (pos 833)) → ⊥
below-one is = let least : neg_ℤ (pos 832) ≤ℤ neg_ℤ (pos 833) = is.0 in omega (arith, ints)

pub ends-outside : (IsInside 0 (pos 833) → ⊥) × (IsInside 0 (neg_ℤ (pos 833)) → ⊥) × (IsInside 1 (pos 832) → ⊥) × (IsInside 1 (neg_ℤ (pos 833)) → ⊥)
ends-outside = (above-zero, below-zero, above-one, below-one)
