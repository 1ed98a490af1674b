-- The layers of the transform, and those back, as stages.
use Rattle.std.proofs.Common.{◌≡◌, ℕ, ◌+◌, ◌-◌, ◌*◌, ◌/◌, ◌%◌, ◌^◌, ◌≤◌, List, length, refl, arith}
use Rattle.std.proofs.Math.Nat.{mod-mod}
use Rattle.module_lattice.specs.Pairs.{bit_rev7}
use Rattle.lattice_transform.specs.Layers.{butterflies, first_place, inverse_butterflies, inverse_layer, layer, zeta}
use Rattle.lattice_transform.proofs.Butterflies.{all_stages}
use Rattle.lattice_transform.proofs.Groups.{BackStage, LayerStage, are-apart, both_sum, difference_part, sum_part, turned_difference}

pub zeta-reduced : (k : ℕ) → zeta k % 3329 ≡ zeta k
unfolding zeta
zeta-reduced k = mod-mod (17 ^ bit_rev7 k) 3329

stages : (m t : ℕ) (f : List ℕ) → 1 ≤ m → m * t ≡ 128 → length f ≡ 256 → (n : ℕ) → n ≤ 128 → LayerStage 3329 zeta m f n (butterflies m n f)
unfolding butterflies
stages m t f positive whole long =
    all_stages (sum_part 3329) (difference_part 3329) (first_place m) (λ k. first_place m k + m) (λ k. zeta (128 / m + k / m)) (λ n. butterflies m n f)
    (are-apart m t positive whole) long (λ n. refl)

pub layer-stage : (m t : ℕ) (f : List ℕ) → 1 ≤ m → m * t ≡ 128 → length f ≡ 256 → LayerStage 3329 zeta m f 128 (layer m f)
layer-stage m t f positive whole long = stages m t f positive whole long 128 (omega arith)

pub length-layer : (m t : ℕ) (f : List ℕ) → 1 ≤ m → m * t ≡ 128 → length f ≡ 256 → length (layer m f) ≡ 256
length-layer m t f positive whole long = let stage : LayerStage 3329 zeta m f 128 (layer m f) = layer-stage m t f positive whole long in stage.size

back-stages : (m t : ℕ) (f : List ℕ) → 1 ≤ m → m * t ≡ 128 → length f ≡ 256 → (n : ℕ) → n ≤ 128
    → BackStage 3329 zeta m f n (inverse_butterflies m n f)
unfolding inverse_butterflies
back-stages m t f positive whole long =
    all_stages (both_sum 3329) (turned_difference 3329) (first_place m) (λ k. first_place m k + m) (λ k. zeta (2 * (128 / m) - 1 - k / m))
    (λ n. inverse_butterflies m n f) (are-apart m t positive whole) long (λ n. refl)

pub back-stage : (m t : ℕ) (f : List ℕ) → 1 ≤ m → m * t ≡ 128 → length f ≡ 256 → BackStage 3329 zeta m f 128 (inverse_layer m f)
back-stage m t f positive whole long = back-stages m t f positive whole long 128 (omega arith)

pub length-back : (m t : ℕ) (f : List ℕ) → 1 ≤ m → m * t ≡ 128 → length f ≡ 256 → length (inverse_layer m f) ≡ 256
length-back m t f positive whole long = let stage : BackStage 3329 zeta m f 128 (inverse_layer m f) = back-stage m t f positive whole long in stage.size
