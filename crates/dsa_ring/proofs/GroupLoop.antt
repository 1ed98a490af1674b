-- The loops over the groups of a layer and over the butterflies of a group.
use Rattle.std.proofs.Common.{◌≡◌, ℕ, ◌+◌, ◌-◌, ◌*◌, ◌/◌, ◌<◌, ◌≤◌, List, sym, ap, ◌∙◌, arith, mul-le-mul_left}
use Rattle.std.proofs.Math.Nat.{mul_comm}
use Rattle.std.proofs.lemmas.Nat.{div-mul-add}
use Rattle.module_lattice.specs.Ring.{butterfly}
use Rattle.lattice_transform.specs.Layers.{first_place}
use Rattle.dsa_ring.specs.Layers.{butterflies, inverse_butterflies, inverse_butterfly, inverse_layer, layer, zeta}
use Rattle.dsa_ring.proofs.LayerLoop.{groups-few, next-butterfly, next-inverse}

-- a group ends where the layer does, or before
pub group-within : (half group : ℕ) → half * (128 / half) ≡ 128 → group < 128 / half → half * group + half ≤ 128
group-within half group whole inside =
    let much : half * (group + 1) ≤ half * (128 / half) = mul-le-mul_left half (omega arith) in
    omega arith

-- the groups of butterflies
group-of : (half group j : ℕ) → j < half → (half * group + j) / half ≡ group
group-of half group j inside = ap (λ (n : ℕ). (n + j) / half) (mul_comm half group) ∙ div-mul-add group half j inside

-- the places of butterflies
place-of : (half group j : ℕ) → j < half → first_place half (half * group + j) ≡ 2 * (half * group) + j
place-of half group j inside =
    let turned : half * ((half * group + j) / half) ≡ half * group = ap (λ (g : ℕ). half * g) (group-of half group j inside) in
    omega arith

-- the zetas of a layer are of the table
pub zeta-inside : (half group : ℕ) → 1 ≤ half → half * (128 / half) ≡ 128 → group < 128 / half → 128 / half + group < 256
zeta-inside half group low whole inside = let few : 128 / half ≤ 128 = groups-few half (128 / half) low whole in omega arith

-- one butterfly of a group more
pub next-in-group : (half group j z : ℕ) (f v w : List ℕ) → j < half
    → w ≡ butterfly 8380417 (2 * (half * group) + j) (2 * (half * group) + j + half) z v
    → z ≡ zeta (128 / half + group) → v ≡ butterflies half (half * group + j) f → w ≡ butterflies half (half * group + (j + 1)) f
next-in-group half group j z f v w inside made is before =
    let more : half * group + j + 1 ≡ half * group + (j + 1) = omega arith in
    next-butterfly half (half * group + j) z f v w
    (made ∙ ap (λ (p : ℕ). butterfly 8380417 p (p + half) z v) (sym (place-of half group j inside)))
    (is ∙ ap (λ (g : ℕ). zeta (128 / half + g)) (sym (group-of half group j inside)))
    before
    ∙ ap (λ (n : ℕ). butterflies half n f) more

-- the butterflies of the groups, up to a number of butterflies
pub butterflies-same : (half n m : ℕ) (f v : List ℕ) → n ≡ m → v ≡ butterflies half n f → v ≡ butterflies half m f
butterflies-same half n m f v same made = made ∙ ap (λ (n : ℕ). butterflies half n f) same

-- all groups make the layer
pub layer-of-groups : (half group : ℕ) (f v : List ℕ) → half * (128 / half) ≡ 128 → group ≡ 128 / half → v ≡ butterflies half (half * group) f → v ≡ layer half f
layer-of-groups half group f v whole all made = butterflies-same half (half * group) 128 f v (ap (λ (g : ℕ). half * g) all ∙ whole) made

-- ---- the way back

pub downward-zeta : (half group : ℕ) → 1 ≤ half → half * (128 / half) ≡ 128 → group < 128 / half → 2 * (128 / half) - 1 - group < 256
downward-zeta half group low whole inside = let few : 128 / half ≤ 128 = groups-few half (128 / half) low whole in omega arith

pub next-back : (half group j z : ℕ) (f v w : List ℕ) → j < half
    → w ≡ inverse_butterfly (2 * (half * group) + j) (2 * (half * group) + j + half) z v
    → z ≡ zeta (2 * (128 / half) - 1 - group) → v ≡ inverse_butterflies half (half * group + j) f
    → w ≡ inverse_butterflies half (half * group + (j + 1)) f
next-back half group j z f v w inside made is before =
    let more : half * group + j + 1 ≡ half * group + (j + 1) = omega arith in
    next-inverse half (half * group + j) z f v w
    (made ∙ ap (λ (p : ℕ). inverse_butterfly p (p + half) z v) (sym (place-of half group j inside)))
    (is ∙ ap (λ (g : ℕ). zeta (2 * (128 / half) - 1 - g)) (sym (group-of half group j inside)))
    before
    ∙ ap (λ (n : ℕ). inverse_butterflies half n f) more

pub inverse-same : (half n m : ℕ) (f v : List ℕ) → n ≡ m → v ≡ inverse_butterflies half n f → v ≡ inverse_butterflies half m f
inverse-same half n m f v same made = made ∙ ap (λ (n : ℕ). inverse_butterflies half n f) same

pub inverse-of-groups : (half group : ℕ) (f v : List ℕ) → half * (128 / half) ≡ 128 → group ≡ 128 / half → v ≡ inverse_butterflies half (half * group) f
    → v ≡ inverse_layer half f
inverse-of-groups half group f v whole all made = inverse-same half (half * group) 128 f v (ap (λ (g : ℕ). half * g) all ∙ whole) made
