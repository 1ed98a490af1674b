-- The loop over the butterflies of a layer.
use Rattle.std.proofs.Common.{◌≡◌, ℕ, ◌+◌, ◌-◌, ◌*◌, ◌/◌, ◌<◌, ◌≤◌, List, sym, ap, subst, ◌∙◌, add-one, arith, inl, inr}
use Rattle.std.proofs.Math.Nat.{mul-le-mul_right}
use Rattle.std.proofs.lemmas.Bool.{cases_eq}
use Rattle.module_lattice.specs.Ring.{IsPolynomial, butterfly}
use Rattle.lattice_transform.specs.Layers.{first_place}
use Rattle.lattice_transform.proofs.Groups.{are-apart, group-below}
use Rattle.dsa_ring.specs.Layers.{butterflies, inverse_butterflies, inverse_butterfly, layer, zeta}

pub first-inside : (half k : ℕ) → 1 ≤ half → half * (128 / half) ≡ 128 → k < 128 → first_place half k < 256
first-inside half k low whole inside = (are-apart half (128 / half) (omega arith) whole).first_inside k inside

pub second-inside : (half k : ℕ) → 1 ≤ half → half * (128 / half) ≡ 128 → k < 128 → first_place half k + half < 256
second-inside half k low whole inside = (are-apart half (128 / half) (omega arith) whole).second_inside k inside

-- at most 128 groups have a butterfly each
pub groups-few : (half t : ℕ) → 1 ≤ half → half * t ≡ 128 → t ≤ 128
groups-few half t low whole = let few : 1 * t ≤ half * t = mul-le-mul_right t low in omega arith

pub group-inside : (half k : ℕ) → 1 ≤ half → half * (128 / half) ≡ 128 → k < 128 → 128 / half + k / half < 256
group-inside half k low whole inside =
    let group : k / half < 128 / half = group-below half (128 / half) k (omega arith) whole inside in
    let few : 128 / half ≤ 128 = groups-few half (128 / half) low whole in
    omega arith

-- one butterfly more
pub next-butterfly : (half k z : ℕ) (f v w : List ℕ) → w ≡ butterfly 8380417 (k + half * (k / half)) (k + half * (k / half) + half) z v
    → z ≡ zeta (128 / half + k / half) → v ≡ butterflies half k f → w ≡ butterflies half (k + 1) f
unfolding butterflies
next-butterfly half k z f v w made is before =
    made ∙ ap (λ z. butterfly 8380417 (first_place half k) (first_place half k + half) z v) is
    ∙ ap (butterfly 8380417 (first_place half k) (first_place half k + half) (zeta (128 / half + k / half))) before
    ∙ ap (λ (n : ℕ). butterflies half n f) (sym (add-one k))

-- the list was a polynomial before the first
pub before-next : (k half : ℕ) (f v : List ℕ) → v ≡ butterflies half k f → (0 < k → IsPolynomial 8380417 f) → IsPolynomial 8380417 v → IsPolynomial 8380417 f
unfolding butterflies
before-next k half f v made before is = elim (cases_eq k 0) [
  | inl none ↦ subst (IsPolynomial 8380417) (made ∙ ap (λ (n : ℕ). butterflies half n f) none) is
  | inr some ↦ before (omega (arith, some))
]

-- and all of them
pub after-all : (half k : ℕ) (f v : List ℕ) → 128 ≤ k → k ≤ 128 → v ≡ butterflies half k f → v ≡ layer half f
after-all half k f v low high made = let all : k ≡ 128 = omega arith in made ∙ ap (λ (n : ℕ). butterflies half n f) all

-- ---- the way back

pub next-inverse : (half k z : ℕ) (f v w : List ℕ) → w ≡ inverse_butterfly (k + half * (k / half)) (k + half * (k / half) + half) z v
    → z ≡ zeta (2 * (128 / half) - 1 - k / half) → v ≡ inverse_butterflies half k f → w ≡ inverse_butterflies half (k + 1) f
unfolding inverse_butterflies
next-inverse half k z f v w made is before =
    made ∙ ap (λ z. inverse_butterfly (first_place half k) (first_place half k + half) z v) is
    ∙ ap (inverse_butterfly (first_place half k) (first_place half k + half) (zeta (2 * (128 / half) - 1 - k / half))) before
    ∙ ap (λ (n : ℕ). inverse_butterflies half n f) (sym (add-one k))
