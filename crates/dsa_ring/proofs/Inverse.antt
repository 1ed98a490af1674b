-- The transform and its inverse undo each other.
use Rattle.std.proofs.Common.{◌≡◌, ℕ, ◌-◌, ◌*◌, ◌%◌, ◌^◌, ◌<◌, List, length, get_or, sym, ap, ◌∙◌, arith}
use Rattle.std.proofs.Math.Nat.{mod-lt, mul_assoc, mul_comm, mul_left_comm}
use Rattle.std.proofs.lemmas.List.{ext_get_or}
use Rattle.std.proofs.lemmas.List.FromFn.{get_or-map-range_with_len, length-map-range_with_len}
use Rattle.module_lattice.specs.Ring.{IsPolynomial}
use Rattle.lattice_transform.proofs.Sums.{over, over-same, over-times}
use Rattle.lattice_transform.proofs.Undo.{undone}
use Rattle.dsa_ring.specs.Transform.{inverse_coefficient, inverse_transform, root, root_power_of_minus, transform, transform_number}
use Rattle.dsa_ring.proofs.Cross.{crossed, summed}

-- the numbers of a transform, and of an inverse
pub transform-at : (f : List ℕ) (i : ℕ) → i < 256 → get_or (transform f) i 0 ≡ transform_number f i
unfolding transform
transform-at f i inside = get_or-map-range_with_len (transform_number f) 0 256 i i 0 inside (omega arith)

pub inverse-at : (h : List ℕ) (j : ℕ) → j < 256 → get_or (inverse_transform h) j 0 ≡ inverse_coefficient h j
unfolding inverse_transform
inverse-at h j inside = get_or-map-range_with_len (inverse_coefficient h) 0 256 j j 0 inside (omega arith)

pub length-transform : (f : List ℕ) → length (transform f) ≡ 256
unfolding transform
length-transform f = length-map-range_with_len (transform_number f) 0 256

pub length-inverse : (h : List ℕ) → length (inverse_transform h) ≡ 256
unfolding inverse_transform
length-inverse h = length-map-range_with_len (inverse_coefficient h) 0 256

-- lists of 256 numbers are the same where their numbers are
pub same-numbers : (xs ys : List ℕ) → length xs ≡ 256 → length ys ≡ 256 → ((i : ℕ) → i < 256 → get_or xs i 0 ≡ get_or ys i 0) → xs ≡ ys
same-numbers xs ys long long2 same = ext_get_or 0 xs ys (long ∙ sym long2) (λ i inside. same i (omega (arith, inside, long)))

pub IsPolynomial-inverse : (h : List ℕ) → IsPolynomial 8380417 (inverse_transform h)
unfolding inverse_transform
IsPolynomial-inverse h = record {
  size = length-inverse h;
  each = λ k d inside.
      let low : k < 256 = omega (arith, inside, length-map-range_with_len (inverse_coefficient h) 0 256) in
      rw (get_or-map-range_with_len (inverse_coefficient h) 0 256 k k d low (omega arith)) (mod-lt _ (omega arith));
}

pub IsPolynomial-transform : (f : List ℕ) → IsPolynomial 8380417 (transform f)
unfolding transform
IsPolynomial-transform f = record {
  size = length-transform f;
  each = λ k d inside.
      let low : k < 256 = omega (arith, inside, length-map-range_with_len (transform_number f) 0 256) in
      rw (get_or-map-range_with_len (transform_number f) 0 256 k k d low (omega arith)) (mod-lt _ (omega arith));
}

-- the inverse's weights, with the factor
abbrev weight : ℕ → ℕ → ℕ
weight j i = 8347681 * root i ^ (512 - j)

-- a number of the inverse, with its weights first or last
inverse-first : (h : List ℕ) (j : ℕ) → inverse_coefficient h j ≡ over 0 256 (λ i. weight j i * get_or h i 0) % 8380417
inverse-first h j = ap (λ x. x % 8380417)
    (sym (over-times 0 256 8347681 (λ i. get_or h i 0 * root_power_of_minus j i))
    ∙ over-same 0 256 (λ i. 8347681 * (get_or h i 0 * root_power_of_minus j i)) (λ i. weight j i * get_or h i 0)
    (λ i low high. ap (λ x. 8347681 * x) (mul_comm (get_or h i 0) (root i ^ (512 - j))) ∙ sym (mul_assoc 8347681 (root i ^ (512 - j)) (get_or h i 0))))

inverse-last : (h : List ℕ) (j : ℕ) → inverse_coefficient h j ≡ over 0 256 (λ i. get_or h i 0 * weight j i) % 8380417
inverse-last h j = ap (λ x. x % 8380417)
    (sym (over-times 0 256 8347681 (λ i. get_or h i 0 * root_power_of_minus j i))
    ∙ over-same 0 256 (λ i. 8347681 * (get_or h i 0 * root_power_of_minus j i)) (λ i. get_or h i 0 * weight j i)
    (λ i low high. mul_left_comm 8347681 (get_or h i 0) (root i ^ (512 - j))))

-- ---- the inverse of a transform

inverse-transform-at : (f : List ℕ) (j : ℕ) → IsPolynomial 8380417 f → j < 256 → get_or (inverse_transform (transform f)) j 0 ≡ get_or f j 0
inverse-transform-at f j is inside =
    let x : ℕ → ℕ = λ k. get_or f k 0 in
    inverse-at (transform f) j inside
    ∙ inverse-first (transform f) j
    ∙ ap (λ s. s % 8380417)
    (over-same 0 256 (λ i. weight j i * get_or (transform f) i 0) (λ i. weight j i * (over 0 256 (λ k. x k * root i ^ k) % 8380417))
    (λ i i_low i_high. ap (λ n. weight j i * n) (transform-at f i (omega arith))))
    ∙ undone 8380417 256 (λ i k. root i ^ k) weight x summed j inside (is.each j 0 (omega (arith, is.size)))

pub inverse-transform : (f : List ℕ) → IsPolynomial 8380417 f → inverse_transform (transform f) ≡ f
inverse-transform f is =
    same-numbers (inverse_transform (transform f)) f (length-inverse (transform f)) is.size (λ j inside. inverse-transform-at f j is inside)

-- ---- the transform of an inverse

transform-inverse-at : (h : List ℕ) (i : ℕ) → IsPolynomial 8380417 h → i < 256 → get_or (transform (inverse_transform h)) i 0 ≡ get_or h i 0
transform-inverse-at h i is inside =
    let x : ℕ → ℕ = λ k. get_or h k 0 in
    transform-at (inverse_transform h) i inside
    ∙ ap (λ s. s % 8380417)
    (over-same 0 256 (λ j. get_or (inverse_transform h) j 0 * root i ^ j) (λ j. root i ^ j * (over 0 256 (λ k. x k * weight j k) % 8380417))
    (λ j j_low j_high.
    mul_comm (get_or (inverse_transform h) j 0) (root i ^ j)
    ∙ ap (λ n. root i ^ j * n) (inverse-at h j (omega arith) ∙ inverse-last h j)))
    ∙ undone 8380417 256 (λ j k. weight j k) (λ i j. root i ^ j) x crossed i inside (is.each i 0 (omega (arith, is.size)))

pub transform-inverse : (h : List ℕ) → IsPolynomial 8380417 h → transform (inverse_transform h) ≡ h
transform-inverse h is =
    same-numbers (transform (inverse_transform h)) h (length-transform (inverse_transform h)) is.size (λ i inside. transform-inverse-at h i is inside)
