-- The layers of the transform, and those back, as stages.
use Rattle.std.proofs.Common.{◌≡◌, ℕ, ◌+◌, ◌-◌, ◌*◌, ◌/◌, ◌%◌, ◌^◌, ◌≤◌, List, length, refl, arith}
use Rattle.std.proofs.Math.Nat.{mod-mod}
use Rattle.lattice_transform.specs.Layers.{first_place}
use Rattle.lattice_transform.proofs.Butterflies.{all_stages}
use Rattle.lattice_transform.proofs.Groups.{BackStage, LayerStage, are-apart, both_sum, difference_part, sum_part, turned_difference}
use Rattle.dsa_ring.specs.Transform.{bit_rev8}
use Rattle.dsa_ring.specs.Layers.{butterflies, inverse_butterflies, inverse_layer, layer, zeta}

pub zeta-reduced : (k : ℕ) → zeta k % 8380417 ≡ zeta k
unfolding zeta
zeta-reduced k = mod-mod (1753 ^ bit_rev8 k) 8380417

stages : (m t : ℕ) (f : List ℕ) → 1 ≤ m → m * t ≡ 128 → length f ≡ 256 → (n : ℕ) → n ≤ 128 → LayerStage 8380417 zeta m f n (butterflies m n f)
unfolding butterflies
stages m t f positive whole long =
    all_stages (sum_part 8380417) (difference_part 8380417) (first_place m) (λ k. first_place m k + m) (λ k. zeta (128 / m + k / m)) (λ n. butterflies m n f)
    (are-apart m t positive whole) long (λ n. refl)

pub layer-stage : (m t : ℕ) (f : List ℕ) → 1 ≤ m → m * t ≡ 128 → length f ≡ 256 → LayerStage 8380417 zeta m f 128 (layer m f)
layer-stage m t f positive whole long = stages m t f positive whole long 128 (omega arith)

pub length-layer : (m t : ℕ) (f : List ℕ) → 1 ≤ m → m * t ≡ 128 → length f ≡ 256 → length (layer m f) ≡ 256
length-layer m t f positive whole long = let stage : LayerStage 8380417 zeta m f 128 (layer m f) = layer-stage m t f positive whole long in stage.size

back-stages : (m t : ℕ) (f : List ℕ) → 1 ≤ m → m * t ≡ 128 → length f ≡ 256 → (n : ℕ) → n ≤ 128
    → BackStage 8380417 zeta m f n (inverse_butterflies m n f)
unfolding inverse_butterflies
back-stages m t f positive whole long =
    all_stages (both_sum 8380417) (turned_difference 8380417) (first_place m) (λ k. first_place m k + m) (λ k. zeta (2 * (128 / m) - 1 - k / m))
    (λ n. inverse_butterflies m n f) (are-apart m t positive whole) long (λ n. refl)

pub back-stage : (m t : ℕ) (f : List ℕ) → 1 ≤ m → m * t ≡ 128 → length f ≡ 256 → BackStage 8380417 zeta m f 128 (inverse_layer m f)
back-stage m t f positive whole long = back-stages m t f positive whole long 128 (omega arith)
