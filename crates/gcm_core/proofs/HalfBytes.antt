-- SubBytes by half bytes: what each vector of the computation holds, as a map over the block, and that
-- the whole is the S-box.
use Rattle.std.proofs.Common.{◌≡◌, ℕ, ◌/◌, ◌^◌, List, [], ◌∷◌, map, replicate, refl, ap}
use Rattle.std.specs.Prelude.{bit_and, bit_xor}
use Rattle.std.proofs.lemmas.Simd.{zip2_of_maps}
use lib.Lanes.{zip2}
use Rattle.gcm_core.specs.declared.nibbles.TheConstants.{TO_LOW, TO_HIGH, RECIPROCAL, SCALED}
use Rattle.gcm_core.specs.private.Nibbles.{changed, entry_of, first_half, second_half}
use Rattle.gcm_core.proofs.Lanes.{IsLanes, looked, with_splat}

abbrev pub down : ℕ → ℕ → ℕ
down a b = a / 2 ^ b

abbrev pub low : ℕ → ℕ
low t = bit_and t 15

abbrev pub high : ℕ → ℕ
high t = t / 2 ^ 4

abbrev pub both : ℕ → ℕ
both t = bit_xor (high t) (low t)

pub same_lanes : (s : List ℕ) → s ≡ map (λ x. x) s
same_lanes [] = refl
same_lanes (x ∷ s) = ap (λ u. x ∷ u) (same_lanes s)

-- the halves of the block
pub low_of_block : (s : List ℕ) → IsLanes s → zip2 bit_and s (replicate 16 15) ≡ map low s
low_of_block s fits = with_splat bit_and (λ x. x) 15 s s fits (same_lanes s)

pub high_of_block : (s : List ℕ) → IsLanes s → zip2 down s (replicate 16 4) ≡ map high s
high_of_block s fits = with_splat down (λ x. x) 4 s s fits (same_lanes s)

-- the block in the other basis
pub changed_block : (s a b : List ℕ) → IsLanes s → a ≡ map (entry_of TO_LOW) (zip2 bit_and s (replicate 16 15)) → b ≡ map (entry_of TO_HIGH) (zip2 down s (replicate 16 4)) → zip2 bit_xor a b ≡ map changed s
changed_block s a b fits ea eb =
    zip2_of_maps bit_xor (λ x. entry_of TO_LOW (bit_and x 15)) (λ x. entry_of TO_HIGH (x / 2 ^ 4)) s
    (looked TO_LOW (λ x. bit_and x 15) s _ a ea (low_of_block s fits)) (looked TO_HIGH (λ x. x / 2 ^ 4) s _ b eb (high_of_block s fits))

-- the sum of the halves
pub both_is : (s : List ℕ) → IsLanes s → zip2 bit_xor (zip2 down s (replicate 16 4)) (zip2 bit_and s (replicate 16 15)) ≡ map both s
both_is s fits = zip2_of_maps bit_xor high low s (high_of_block s fits) (low_of_block s fits)

-- the inverse of what two halves make, by the place that one of them leads to
abbrev pub met : (ℕ → ℕ) → ℕ → ℕ
met f x = bit_xor (entry_of RECIPROCAL (f x)) (entry_of SCALED (low x))

pub met_is : (f : ℕ → ℕ) (s js r u : List ℕ) → r ≡ map (λ x. entry_of SCALED (low x)) s → u ≡ map (entry_of RECIPROCAL) js → js ≡ map f s → zip2 bit_xor u r ≡ map (met f) s
met_is f s js r u er eu ej = zip2_of_maps bit_xor (λ x. entry_of RECIPROCAL (f x)) (λ x. entry_of SCALED (low x)) s (looked RECIPROCAL f s js u eu ej) er

pub first_is : (s w v j : List ℕ) → w ≡ map (entry_of RECIPROCAL) v → v ≡ map (met high) s → j ≡ map both s → zip2 bit_xor w j ≡ map first_half s
first_is s w v j ew ev ej = zip2_of_maps bit_xor (λ x. entry_of RECIPROCAL (met high x)) both s (looked RECIPROCAL (met high) s v w ew ev) ej

pub second_is : (s w v i : List ℕ) → w ≡ map (entry_of RECIPROCAL) v → v ≡ map (met both) s → i ≡ map high s → zip2 bit_xor w i ≡ map second_half s
second_is s w v i ew ev ei = zip2_of_maps bit_xor (λ x. entry_of RECIPROCAL (met both x)) high s (looked RECIPROCAL (met both) s v w ew ev) ei
