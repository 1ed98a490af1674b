-- The sums of the powers of the roots, and of their ratios.
use Rattle.std.proofs.Common.{◌≡◌, ◌≢◌, ℕ, ◌+◌, ◌-◌, ◌*◌, ◌%◌, ◌^◌, ◌<◌, ◌≤◌, refl, sym, ap, ◌∙◌, inl, inr, arith}
use Rattle.std.specs.Prelude.{◌==◌, if◌then◌else◌}
use Rattle.std.proofs.Math.Nat.{mul_assoc, mul_left_comm}
use Rattle.std.proofs.lemmas.Bool.{cases_eq, eq-eqb, ne_eqb}
use Rattle.std.proofs.lemmas.Nat.{pow-add}
use Rattle.lattice_transform.proofs.Powers.{pow-pow}
use Rattle.lattice_transform.proofs.Sums.{over, over-mod, over-same, over-times, times-mod}
use Rattle.lattice_transform.proofs.Undo.{unit, unit-other, unit-same}
use Rattle.dsa_ring.specs.Transform.{bit_rev8, root}
use Rattle.dsa_ring.proofs.Permuted.{over-permuted}
use Rattle.dsa_ring.proofs.Roots.{bit_rev8-below, bit_rev8-bit_rev8, power-turns, power_sum, root-power}

-- ---- the sums of h(i)^(512 - j + k) over i

-- h(i)^s is 1753^s times a power of a 256th root of 1
root-split : (i s : ℕ) → root i ^ s % 8380417 ≡ 1753 ^ s * (1753 ^ (2 * s)) ^ bit_rev8 i % 8380417
root-split i s =
    let b : ℕ = bit_rev8 i in
    let exponent : (2 * b + 1) * s ≡ s + 2 * s * b = omega arith in
    root-power i s
    ∙ ap (λ x. x % 8380417)
    (ap (λ (e : ℕ). 1753 ^ e) exponent ∙ pow-add 1753 s (2 * s * b) ∙ ap (λ x. 1753 ^ s * x) (sym (pow-pow 1753 (2 * s) b)))

root_sum : (s : ℕ) → over 0 256 (λ i. root i ^ s) % 8380417 ≡ 1753 ^ s * (if s % 256 == 0 then 256 else 0) % 8380417
root_sum s =
    let x : ℕ = 1753 ^ (2 * s) in
    over-mod 8380417 0 256 (λ i. root i ^ s) (λ i. 1753 ^ s * x ^ bit_rev8 i) (λ i low high. root-split i s)
    ∙ ap (λ y. y % 8380417)
    (over-times 0 256 (1753 ^ s) (λ i. x ^ bit_rev8 i)
    ∙ ap (λ y. 1753 ^ s * y) (over-permuted 256 bit_rev8 (λ n. x ^ n) bit_rev8-below bit_rev8-bit_rev8))
    ∙ times-mod 8380417 (1753 ^ s) (1753 ^ s) (over 0 256 (λ n. x ^ n)) (if s % 256 == 0 then 256 else 0) refl (power_sum s)

scaled_sum : ℕ → ℕ
scaled_sum s = 8347681 * (1753 ^ s * (if s % 256 == 0 then 256 else 0)) % 8380417

scaled-whole : (s : ℕ) → s ≡ 512 → scaled_sum s ≡ 1
unfolding scaled_sum
scaled-whole s is = ap (λ (s : ℕ). 8347681 * (1753 ^ s * (if s % 256 == 0 then 256 else 0)) % 8380417) is ∙ refl

nothing : (c x : ℕ) → c * (x * 0) % 8380417 ≡ 0
nothing c x = let none : c * (x * 0) ≡ 0 = omega arith in ap (λ y. y % 8380417) none

scaled-other : (s : ℕ) → s % 256 ≢ 0 → scaled_sum s ≡ 0
unfolding scaled_sum
scaled-other s other =
    ap (λ t. 8347681 * (1753 ^ s * (if t then 256 else 0)) % 8380417) (ne_eqb (s % 256) 0 other) ∙ nothing 8347681 (1753 ^ s)

-- what undoes the transform's weights at j and k
scaled-unit : (j k : ℕ) → j < 256 → k < 256 → scaled_sum (512 - j + k) ≡ unit j k % 8380417
scaled-unit j k inside inside2 = elim (cases_eq k j) [
  | inl same ↦
      scaled-whole (512 - j + k) (omega (arith, same)) ∙ sym (ap (λ x. x % 8380417) (unit-same j k same))
  | inr apart ↦
      scaled-other (512 - j + k) (λ none. apart (omega (arith, none))) ∙ sym (ap (λ x. x % 8380417) (unit-other j k apart))
]

pub summed : (j k : ℕ) → j < 256 → k < 256 → over 0 256 (λ i. 8347681 * root i ^ (512 - j) * root i ^ k) % 8380417 ≡ unit j k % 8380417
unfolding scaled_sum
summed j k inside inside2 =
    let s : ℕ = 512 - j + k in
    ap (λ x. x % 8380417)
    (over-same 0 256 (λ i. 8347681 * root i ^ (512 - j) * root i ^ k) (λ i. 8347681 * root i ^ s)
    (λ i low high. mul_assoc 8347681 (root i ^ (512 - j)) (root i ^ k) ∙ ap (λ x. 8347681 * x) (sym (pow-add (root i) (512 - j) k)))
    ∙ over-times 0 256 8347681 (λ i. root i ^ s))
    ∙ times-mod 8380417 8347681 8347681 (over 0 256 (λ i. root i ^ s)) (1753 ^ s * (if s % 256 == 0 then 256 else 0)) refl (root_sum s)
    ∙ scaled-unit j k inside inside2

-- ---- the sums of h(i)^j·h(k)^(512 - j) over j

same-turn : (a b : ℕ) → b ≡ a → (a + 511 * b + 256) % 256 ≡ 0
same-turn a b same = omega arith

no-turn : (a b : ℕ) → a < 256 → b < 256 → (a + 511 * b + 256) % 256 ≡ 0 → b ≡ a
no-turn a b low low2 none = omega arith

-- h(i)/h(k) is 1753^(2·n) with this n
ratio : ℕ → ℕ → ℕ
ratio i k = bit_rev8 i + 511 * bit_rev8 k + 256

exponents : (a b j s : ℕ) → j + s ≡ 512
    → (2 * a + 1) * j + (2 * b + 1) * s + 512 * ((2 * b + 1) * j) ≡ 2 * (a + 511 * b + 256) * j + 512 * (2 * b + 1)
exponents a b j s all =
    let whole : (2 * b + 1) * (j + s) ≡ (2 * b + 1) * 512 = ap (λ (x : ℕ). (2 * b + 1) * x) all in
    omega arith

powers : (i k j : ℕ) → j ≤ 512 → root i ^ j * root k ^ (512 - j) % 8380417 ≡ (1753 ^ (2 * ratio i k)) ^ j % 8380417
unfolding ratio
powers i k j low =
    let a : ℕ = bit_rev8 i in
    let b : ℕ = bit_rev8 k in
    let s : ℕ = 512 - j in
    let e : ℕ = (2 * a + 1) * j + (2 * b + 1) * s in
    times-mod 8380417 (root i ^ j) (1753 ^ ((2 * a + 1) * j)) (root k ^ s) (1753 ^ ((2 * b + 1) * s)) (root-power i j) (root-power k s)
    ∙ ap (λ x. x % 8380417) (sym (pow-add 1753 ((2 * a + 1) * j) ((2 * b + 1) * s)))
    ∙ sym (power-turns e ((2 * b + 1) * j))
    ∙ ap (λ (x : ℕ). 1753 ^ x % 8380417) (exponents a b j s (omega arith))
    ∙ power-turns (2 * (a + 511 * b + 256) * j) (2 * b + 1)
    ∙ ap (λ x. x % 8380417) (sym (pow-pow 1753 (2 * (a + 511 * b + 256)) j))

term : (i k j : ℕ) → j ≤ 512 → root i ^ j * (8347681 * root k ^ (512 - j)) % 8380417 ≡ 8347681 * (1753 ^ (2 * ratio i k)) ^ j % 8380417
term i k j low =
    ap (λ x. x % 8380417) (mul_left_comm (root i ^ j) 8347681 (root k ^ (512 - j)))
    ∙ times-mod 8380417 8347681 8347681 (root i ^ j * root k ^ (512 - j)) ((1753 ^ (2 * ratio i k)) ^ j) refl (powers i k j low)

ratio-same : (i k : ℕ) → k ≡ i → ratio i k % 256 ≡ 0
unfolding ratio
ratio-same i k same =
    let b : bit_rev8 k ≡ bit_rev8 i = ap bit_rev8 same in
    same-turn (bit_rev8 i) (bit_rev8 k) b

ratio-other : (i k : ℕ) → i < 256 → k < 256 → k ≢ i → ratio i k % 256 ≢ 0
unfolding ratio
ratio-other i k inside inside2 apart none =
    let a : bit_rev8 i < 256 = bit_rev8-below i inside in
    let b : bit_rev8 k < 256 = bit_rev8-below k inside2 in
    let same : bit_rev8 k ≡ bit_rev8 i = no-turn (bit_rev8 i) (bit_rev8 k) a b none in
    apart (sym (bit_rev8-bit_rev8 k inside2) ∙ ap bit_rev8 same ∙ bit_rev8-bit_rev8 i inside)

tested : (i k t : ℕ) → i < 256 → k < 256 → t ≡ ratio i k % 256 → 8347681 * (if t == 0 then 256 else 0) % 8380417 ≡ unit i k % 8380417
tested i k t inside inside2 is = elim (cases_eq k i) [
  | inl same ↦
      ap (λ t. 8347681 * (if t then 256 else 0) % 8380417) (eq-eqb t 0 (is ∙ ratio-same i k same))
      ∙ sym (ap (λ x. x % 8380417) (unit-same i k same))
  | inr apart ↦
      ap (λ t. 8347681 * (if t then 256 else 0) % 8380417) (ne_eqb t 0 (λ none. ratio-other i k inside inside2 apart (sym is ∙ none)))
      ∙ sym (ap (λ x. x % 8380417) (unit-other i k apart))
]

pub crossed : (i k : ℕ) → i < 256 → k < 256 → over 0 256 (λ j. root i ^ j * (8347681 * root k ^ (512 - j))) % 8380417 ≡ unit i k % 8380417
crossed i k inside inside2 =
    let x : ℕ = 1753 ^ (2 * ratio i k) in
    over-mod 8380417 0 256 (λ j. root i ^ j * (8347681 * root k ^ (512 - j))) (λ j. 8347681 * x ^ j) (λ j low high. term i k j (omega arith))
    ∙ ap (λ y. y % 8380417) (over-times 0 256 8347681 (λ j. x ^ j))
    ∙ times-mod 8380417 8347681 8347681 (over 0 256 (λ j. x ^ j)) (if ratio i k % 256 == 0 then 256 else 0) refl (power_sum (ratio i k))
    ∙ tested i k (ratio i k % 256) inside inside2 refl

-- ---- the roots differ

pub roots-differ : (i k : ℕ) → i < 256 → k < 256 → root i ≡ root k → i ≡ k
roots-differ i k inside inside2 same = elim (cases_eq k i) [
  | inl is ↦ sym is
  | inr apart ↦
      let units : unit i i % 8380417 ≡ unit i k % 8380417 =
      sym (crossed i i inside inside)
      ∙ ap (λ (r : ℕ). over 0 256 (λ j. root i ^ j * (8347681 * r ^ (512 - j))) % 8380417) same
      ∙ crossed i k inside inside2 in
      let one : unit i i ≡ 1 = unit-same i i refl in
      let none : unit i k ≡ 0 = unit-other i k apart in
      absurd (omega (arith, units, one, none))
]
