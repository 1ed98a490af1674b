-- The places of the butterflies of a layer.
use Rattle.std.proofs.Common.{◌≡◌, ℕ, suc, ◌+◌, ◌-◌, ◌*◌, ◌/◌, ◌%◌, ◌<◌, ◌≤◌, List, sym, ap, ap₂, ◌∙◌, inl, inr, arith, mul-le-mul_left}
use Rattle.std.proofs.Math.Nat.{div-add-mod, mod-lt}
use Rattle.std.proofs.lemmas.Bool.{cases_lt}
use Rattle.std.proofs.lemmas.Nat.{div-mul-add, mod-mul-add}
use Rattle.module_lattice.specs.Ring.{minus, plus, times}
use Rattle.lattice_transform.specs.Layers.{first_place}
use Rattle.lattice_transform.proofs.Butterflies.{AreApart, Stage, Step}

-- ---- places as blocks of m numbers

pub first-is : (m k : ℕ) → first_place m k ≡ 2 * (k / m) * m + k % m
first-is m k = let whole : m * (k / m) + k % m ≡ k = div-add-mod k m in omega arith

pub second-is : (m k : ℕ) → first_place m k + m ≡ (2 * (k / m) + 1) * m + k % m
second-is m k = let whole : m * (k / m) + k % m ≡ k = div-add-mod k m in omega arith

block-of : (m a b p : ℕ) → b < m → p ≡ a * m + b → p / m ≡ a
block-of m a b p small is = ap (λ (p : ℕ). p / m) is ∙ div-mul-add a m b small

place-of : (m a b p : ℕ) → b < m → p ≡ a * m + b → p % m ≡ b
place-of m a b p small is = ap (λ (p : ℕ). p % m) is ∙ mod-mul-add a m b small

pub group-below : (m t k : ℕ) → 1 ≤ m → m * t ≡ 128 → k < 128 → k / m < t
group-below m t k positive whole inside = elim (cases_lt (k / m) t) [
  | inl below ↦ below
  | inr above ↦
      let much : m * t ≤ m * (k / m) = mul-le-mul_left m above in
      let all : m * (k / m) + k % m ≡ k = div-add-mod k m in
      absurd (omega arith)
]

same-butterfly : (m k l : ℕ) → k / m ≡ l / m → k % m ≡ l % m → k ≡ l
same-butterfly m k l group place = sym (div-add-mod k m) ∙ ap₂ (λ (a b : ℕ). m * a + b) group place ∙ div-add-mod l m

pub are-apart : (m t : ℕ) → 1 ≤ m → m * t ≡ 128 → AreApart (first_place m) (λ k. first_place m k + m)
are-apart m t positive whole = record {
  first_inside = λ k inside.
      let group : m * suc (k / m) ≤ m * t = mul-le-mul_left m (group-below m t k positive whole inside) in
      let place : k % m < m = mod-lt k positive in
      let is : first_place m k ≡ 2 * (k / m) * m + k % m = first-is m k in
      omega arith;
  second_inside = λ k inside.
      let group : m * suc (k / m) ≤ m * t = mul-le-mul_left m (group-below m t k positive whole inside) in
      let place : k % m < m = mod-lt k positive in
      let is : first_place m k + m ≡ (2 * (k / m) + 1) * m + k % m = second-is m k in
      omega arith;
  firsts = λ k l inside inside2 same.
      let block : 2 * (k / m) ≡ 2 * (l / m) =
      sym (block-of m (2 * (k / m)) (k % m) (first_place m k) (mod-lt k positive) (first-is m k)) ∙ ap (λ (p : ℕ). p / m) same
      ∙ block-of m (2 * (l / m)) (l % m) (first_place m l) (mod-lt l positive) (first-is m l) in
      let place : k % m ≡ l % m =
      sym (place-of m (2 * (k / m)) (k % m) (first_place m k) (mod-lt k positive) (first-is m k)) ∙ ap (λ (p : ℕ). p % m) same
      ∙ place-of m (2 * (l / m)) (l % m) (first_place m l) (mod-lt l positive) (first-is m l) in
      same-butterfly m k l (omega (arith, block)) place;
  seconds = λ k l inside inside2 same.
      let block : 2 * (k / m) + 1 ≡ 2 * (l / m) + 1 =
      sym (block-of m (2 * (k / m) + 1) (k % m) (first_place m k + m) (mod-lt k positive) (second-is m k)) ∙ ap (λ (p : ℕ). p / m) same
      ∙ block-of m (2 * (l / m) + 1) (l % m) (first_place m l + m) (mod-lt l positive) (second-is m l) in
      let place : k % m ≡ l % m =
      sym (place-of m (2 * (k / m) + 1) (k % m) (first_place m k + m) (mod-lt k positive) (second-is m k)) ∙ ap (λ (p : ℕ). p % m) same
      ∙ place-of m (2 * (l / m) + 1) (l % m) (first_place m l + m) (mod-lt l positive) (second-is m l) in
      same-butterfly m k l (omega (arith, block)) place;
  both = λ k l inside inside2 same.
      let block : 2 * (k / m) ≡ 2 * (l / m) + 1 =
      sym (block-of m (2 * (k / m)) (k % m) (first_place m k) (mod-lt k positive) (first-is m k)) ∙ ap (λ (p : ℕ). p / m) same
      ∙ block-of m (2 * (l / m) + 1) (l % m) (first_place m l + m) (mod-lt l positive) (second-is m l) in
      absurd (omega (arith, block));
}

-- ---- the butterflies of a layer modulo q, and of the layer back, by any zetas

abbrev pub sum_part : ℕ → Step
sum_part q z a b = plus q a (times q z b)

abbrev pub difference_part : ℕ → Step
difference_part q z a b = minus q a (times q z b)

abbrev pub LayerStage : ℕ → (ℕ → ℕ) → ℕ → List ℕ → ℕ → List ℕ → Type 0
LayerStage q zeta m f n v = Stage (sum_part q) (difference_part q) (first_place m) (λ k. first_place m k + m) (λ k. zeta (128 / m + k / m)) f n v

abbrev pub both_sum : ℕ → Step
both_sum q z a b = plus q a b

abbrev pub turned_difference : ℕ → Step
turned_difference q z a b = times q z (minus q b a)

abbrev pub BackStage : ℕ → (ℕ → ℕ) → ℕ → List ℕ → ℕ → List ℕ → Type 0
BackStage q zeta m f n v =
    Stage (both_sum q) (turned_difference q) (first_place m) (λ k. first_place m k + m) (λ k. zeta (2 * (128 / m) - 1 - k / m)) f n v
