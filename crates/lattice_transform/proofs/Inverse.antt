-- The transform and its inverse undo each other.
use Rattle.std.proofs.Common.{◌≡◌, ℕ, ◌+◌, ◌-◌, ◌*◌, ◌%◌, ◌^◌, ◌<◌, ◌≤◌, List, length, get_or, refl, sym, ap, ◌∙◌, inl, inr, arith}
use Rattle.std.specs.Prelude.{◌==◌, if◌then◌else◌}
use Rattle.std.proofs.Math.Nat.{mul_assoc, mul_comm, mul_left_comm}
use Rattle.std.proofs.lemmas.Bool.{cases_eq, eq-eqb, ne_eqb}
use Rattle.std.proofs.lemmas.Nat.{pow-add}
use Rattle.module_lattice.specs.Pairs.{gamma}
use Rattle.module_lattice.specs.Ring.{IsPolynomial}
use Rattle.lattice_transform.specs.Transform.{gamma_power_of_minus, inverse_coefficient, inverse_transform, transform, transform_number}
use Rattle.lattice_transform.proofs.Cross.{crossed}
use Rattle.lattice_transform.proofs.Places.{length-pairs, pairs-at, same-pairs}
use Rattle.lattice_transform.proofs.Roots.{power_sum-at}
use Rattle.lattice_transform.proofs.Sums.{over, over-same, over-times}
use Rattle.lattice_transform.proofs.Undo.{undone, unit, unit-other, unit-same}

-- the numbers of a transform, and of an inverse
pub transform-at : (f : List ℕ) (parity i : ℕ) → parity < 2 → i < 128 → get_or (transform f) (2 * i + parity) 0 ≡ transform_number f parity i
unfolding transform
transform-at f parity i low inside = pairs-at (transform_number f) 128 parity i low inside

pub inverse-at : (h : List ℕ) (parity j : ℕ) → parity < 2 → j < 128 → get_or (inverse_transform h) (2 * j + parity) 0 ≡ inverse_coefficient h parity j
unfolding inverse_transform
inverse-at h parity j low inside = pairs-at (inverse_coefficient h) 128 parity j low inside

pub length-transform : (f : List ℕ) → length (transform f) ≡ 256
unfolding transform
length-transform f = length-pairs (transform_number f) 0 128

pub length-inverse : (h : List ℕ) → length (inverse_transform h) ≡ 256
unfolding inverse_transform
length-inverse h = length-pairs (inverse_coefficient h) 0 128

-- the inverse's weights, with the factor
abbrev weight : ℕ → ℕ → ℕ
weight j i = 3303 * gamma i ^ (256 - j)

-- a number of the inverse, with its weights first or last
inverse-first : (h : List ℕ) (parity j : ℕ) → inverse_coefficient h parity j ≡ over 0 128 (λ i. weight j i * get_or h (2 * i + parity) 0) % 3329
inverse-first h parity j = ap (λ x. x % 3329)
    (sym (over-times 0 128 3303 (λ i. get_or h (2 * i + parity) 0 * gamma_power_of_minus j i))
    ∙ over-same 0 128 (λ i. 3303 * (get_or h (2 * i + parity) 0 * gamma_power_of_minus j i)) (λ i. weight j i * get_or h (2 * i + parity) 0)
    (λ i low high.
    ap (λ x. 3303 * x) (mul_comm (get_or h (2 * i + parity) 0) (gamma i ^ (256 - j))) ∙ sym (mul_assoc 3303 (gamma i ^ (256 - j)) (get_or h (2 * i + parity) 0))))

inverse-last : (h : List ℕ) (parity j : ℕ) → inverse_coefficient h parity j ≡ over 0 128 (λ i. get_or h (2 * i + parity) 0 * weight j i) % 3329
inverse-last h parity j = ap (λ x. x % 3329)
    (sym (over-times 0 128 3303 (λ i. get_or h (2 * i + parity) 0 * gamma_power_of_minus j i))
    ∙ over-same 0 128 (λ i. 3303 * (get_or h (2 * i + parity) 0 * gamma_power_of_minus j i)) (λ i. get_or h (2 * i + parity) 0 * weight j i)
    (λ i low high. mul_left_comm 3303 (get_or h (2 * i + parity) 0) (gamma i ^ (256 - j))))

-- ---- the inverse of a transform

tested-unit : (e j k : ℕ) → j ≤ 256 → e ≡ 256 - j + k → (if e == 256 then 1 else 0) ≡ unit j k % 3329
tested-unit e j k low is = elim (cases_eq k j) [
  | inl same ↦ ap (λ t. if t then 1 else 0) (eq-eqb e 256 (omega (arith, same))) ∙ sym (ap (λ x. x % 3329) (unit-same j k same))
  | inr apart ↦ ap (λ t. if t then 1 else 0) (ne_eqb e 256 (λ whole. apart (omega (arith, whole)))) ∙ sym (ap (λ x. x % 3329) (unit-other j k apart))
]

summed : (j k : ℕ) → j < 128 → k < 128 → over 0 128 (λ i. weight j i * gamma i ^ k) % 3329 ≡ unit j k % 3329
summed j k inside inside2 =
    ap (λ x. x % 3329)
    (over-same 0 128 (λ i. weight j i * gamma i ^ k) (λ i. 3303 * gamma i ^ (256 - j + k))
    (λ i low high. mul_assoc 3303 (gamma i ^ (256 - j)) (gamma i ^ k) ∙ ap (λ x. 3303 * x) (sym (pow-add (gamma i) (256 - j) k)))
    ∙ over-times 0 128 3303 (λ i. gamma i ^ (256 - j + k)))
    ∙ power_sum-at (256 - j + k) (omega arith) (omega arith)
    ∙ tested-unit (256 - j + k) j k (omega arith) refl

inverse-transform-at : (f : List ℕ) (parity j : ℕ) → IsPolynomial 3329 f → parity < 2 → j < 128
    → get_or (inverse_transform (transform f)) (2 * j + parity) 0 ≡ get_or f (2 * j + parity) 0
inverse-transform-at f parity j is low inside =
    let x : ℕ → ℕ = λ k. get_or f (2 * k + parity) 0 in
    inverse-at (transform f) parity j low inside
    ∙ inverse-first (transform f) parity j
    ∙ ap (λ s. s % 3329)
    (over-same 0 128 (λ i. weight j i * get_or (transform f) (2 * i + parity) 0) (λ i. weight j i * (over 0 128 (λ k. x k * gamma i ^ k) % 3329))
    (λ i i_low i_high. ap (λ n. weight j i * n) (transform-at f parity i low (omega arith))))
    ∙ undone 3329 128 (λ i k. gamma i ^ k) weight x summed j inside (is.each (2 * j + parity) 0 (omega (arith, is.size)))

pub inverse-transform : (f : List ℕ) → IsPolynomial 3329 f → inverse_transform (transform f) ≡ f
inverse-transform f is =
    same-pairs (inverse_transform (transform f)) f 128 (length-inverse (transform f)) is.size
    (λ parity j low inside. inverse-transform-at f parity j is low inside)

-- ---- the transform of an inverse

transform-inverse-at : (h : List ℕ) (parity i : ℕ) → IsPolynomial 3329 h → parity < 2 → i < 128
    → get_or (transform (inverse_transform h)) (2 * i + parity) 0 ≡ get_or h (2 * i + parity) 0
transform-inverse-at h parity i is low inside =
    let x : ℕ → ℕ = λ k. get_or h (2 * k + parity) 0 in
    transform-at (inverse_transform h) parity i low inside
    ∙ ap (λ s. s % 3329)
    (over-same 0 128 (λ j. get_or (inverse_transform h) (2 * j + parity) 0 * gamma i ^ j) (λ j. gamma i ^ j * (over 0 128 (λ k. x k * weight j k) % 3329))
    (λ j j_low j_high.
    mul_comm (get_or (inverse_transform h) (2 * j + parity) 0) (gamma i ^ j)
    ∙ ap (λ n. gamma i ^ j * n) (inverse-at h parity j low (omega arith) ∙ inverse-last h parity j)))
    ∙ undone 3329 128 (λ j k. weight j k) (λ i j. gamma i ^ j) x crossed i inside (is.each (2 * i + parity) 0 (omega (arith, is.size)))

pub transform-inverse : (h : List ℕ) → IsPolynomial 3329 h → transform (inverse_transform h) ≡ h
transform-inverse h is =
    same-pairs (transform (inverse_transform h)) h 128 (length-transform (inverse_transform h)) is.size
    (λ parity i low inside. transform-inverse-at h parity i is low inside)
