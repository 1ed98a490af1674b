-- Eight layers are the transform.
use Rattle.std.proofs.Common.{◌≡◌, ℕ, ◌+◌, ◌*◌, ◌/◌, ◌%◌, ◌^◌, ◌<◌, ◌≤◌, List, get_or, map, refl, sym, ap, ◌∙◌, arith}
use Rattle.std.specs.List.{range_with_len}
use Rattle.module_lattice.specs.Ring.{IsPolynomial}
use Rattle.lattice_transform.proofs.Powers.{power-mod}
use Rattle.lattice_transform.proofs.Remainders.{Ready, Squares, layer-remainders, ready-first, root_of, squares-first, squares-from}
use Rattle.lattice_transform.proofs.Sums.{over-mod, times-mod}
use Rattle.lattice_transform.proofs.Tables.{from_table}
use Rattle.dsa_ring.specs.Layers.{layer, layers, zeta}
use Rattle.dsa_ring.specs.Transform.{root, transform, transform_number}
use Rattle.dsa_ring.proofs.Inverse.{length-transform, same-numbers, transform-at}
use Rattle.dsa_ring.proofs.Stages.{layer-stage, length-layer, zeta-reduced}

-- ---- the squares of the zetas, by computation

-- the roots of the blocks of m numbers
abbrev roots : ℕ → ℕ → ℕ
roots m b = root_of 8380417 zeta m b

squares_64 : map (λ g. zeta (128 / 64 + g) ^ 2 % 8380417) (range_with_len 0 2) ≡ map (λ g. roots (2 * 64) g % 8380417) (range_with_len 0 2)
unfolding zeta
squares_64 = refl

squares_32 : map (λ g. zeta (128 / 32 + g) ^ 2 % 8380417) (range_with_len 0 4) ≡ map (λ g. roots (2 * 32) g % 8380417) (range_with_len 0 4)
unfolding zeta
squares_32 = refl

squares_16 : map (λ g. zeta (128 / 16 + g) ^ 2 % 8380417) (range_with_len 0 8) ≡ map (λ g. roots (2 * 16) g % 8380417) (range_with_len 0 8)
unfolding zeta
squares_16 = refl

squares_8 : map (λ g. zeta (128 / 8 + g) ^ 2 % 8380417) (range_with_len 0 16) ≡ map (λ g. roots (2 * 8) g % 8380417) (range_with_len 0 16)
unfolding zeta
squares_8 = refl

squares_4 : map (λ g. zeta (128 / 4 + g) ^ 2 % 8380417) (range_with_len 0 32) ≡ map (λ g. roots (2 * 4) g % 8380417) (range_with_len 0 32)
unfolding zeta
squares_4 = refl

squares_2 : map (λ g. zeta (128 / 2 + g) ^ 2 % 8380417) (range_with_len 0 64) ≡ map (λ g. roots (2 * 2) g % 8380417) (range_with_len 0 64)
unfolding zeta
squares_2 = refl

squares_1 : map (λ g. zeta (128 / 1 + g) ^ 2 % 8380417) (range_with_len 0 128) ≡ map (λ g. roots (2 * 1) g % 8380417) (range_with_len 0 128)
unfolding zeta
squares_1 = refl

-- the roots of the last layer are h(i)
last_roots : map (λ b. roots 1 b % 8380417) (range_with_len 0 256) ≡ map (λ b. root b % 8380417) (range_with_len 0 256)
unfolding zeta root
last_roots = refl

-- ---- all layers

next : (m t : ℕ) (root : ℕ → ℕ) (f v : List ℕ) → 1 ≤ m → m * t ≡ 128 → Squares 8380417 zeta m t root → Ready 8380417 (2 * m) t root f v
    → Ready 8380417 m (2 * t) (roots m) f (layer m v)
next m t root f v positive whole squares ready = record {
  size = length-layer m t v positive whole ready.size;
  remainders = layer-remainders 8380417 (omega arith) zeta zeta-reduced m t root f v (layer m v) whole (layer-stage m t v positive whole ready.size) squares ready.remainders;
}

all-layers : (f : List ℕ) → IsPolynomial 8380417 f → Ready 8380417 1 256 (roots 1) f (layers f)
all-layers f is =
    let v0 : Ready 8380417 256 1 (λ b. 0) f f = ready-first 8380417 f is in
    let v1 : Ready 8380417 128 2 (roots 128) f (layer 128 f) =
    next 128 1 (λ b. 0) f f (omega arith) refl (squares-first 8380417 zeta) v0 in
    let v2 : Ready 8380417 64 4 (roots 64) f (layer 64 (layer 128 f)) =
    next 64 2 (roots 128) f (layer 128 f) (omega arith) refl (squares-from 8380417 zeta 64 2 squares_64) v1 in
    let v3 : Ready 8380417 32 8 (roots 32) f (layer 32 (layer 64 (layer 128 f))) =
    next 32 4 (roots 64) f (layer 64 (layer 128 f)) (omega arith) refl (squares-from 8380417 zeta 32 4 squares_32) v2 in
    let v4 : Ready 8380417 16 16 (roots 16) f (layer 16 (layer 32 (layer 64 (layer 128 f)))) =
    next 16 8 (roots 32) f (layer 32 (layer 64 (layer 128 f))) (omega arith) refl (squares-from 8380417 zeta 16 8 squares_16) v3 in
    let v5 : Ready 8380417 8 32 (roots 8) f (layer 8 (layer 16 (layer 32 (layer 64 (layer 128 f))))) =
    next 8 16 (roots 16) f (layer 16 (layer 32 (layer 64 (layer 128 f)))) (omega arith) refl (squares-from 8380417 zeta 8 16 squares_8) v4 in
    let v6 : Ready 8380417 4 64 (roots 4) f (layer 4 (layer 8 (layer 16 (layer 32 (layer 64 (layer 128 f)))))) =
    next 4 32 (roots 8) f (layer 8 (layer 16 (layer 32 (layer 64 (layer 128 f))))) (omega arith) refl (squares-from 8380417 zeta 4 32 squares_4) v5 in
    let v7 : Ready 8380417 2 128 (roots 2) f (layer 2 (layer 4 (layer 8 (layer 16 (layer 32 (layer 64 (layer 128 f))))))) =
    next 2 64 (roots 4) f (layer 4 (layer 8 (layer 16 (layer 32 (layer 64 (layer 128 f)))))) (omega arith) refl (squares-from 8380417 zeta 2 64 squares_2) v6 in
    next 1 128 (roots 2) f (layer 2 (layer 4 (layer 8 (layer 16 (layer 32 (layer 64 (layer 128 f))))))) (omega arith) refl (squares-from 8380417 zeta 1 128 squares_1) v7

number-at : (f : List ℕ) (i : ℕ) → IsPolynomial 8380417 f → i < 256 → get_or (layers f) i 0 ≡ transform_number f i
number-at f i is inside =
    let place : i ≡ i * 1 + 0 = omega arith in
    let ready : Ready 8380417 1 256 (roots 1) f (layers f) = all-layers f is in
    ap (λ (k : ℕ). get_or (layers f) k 0) place
    ∙ ready.remainders.at i 0 inside (omega arith)
    ∙ over-mod 8380417 0 256 (λ s. get_or f (0 + s * 1) 0 * roots 1 i ^ s) (λ s. get_or f s 0 * root i ^ s)
    (λ s s_low s_high.
    let place : 0 + s * 1 ≡ s = omega arith in
    times-mod 8380417 (get_or f (0 + s * 1) 0) (get_or f s 0) (roots 1 i ^ s) (root i ^ s)
    (ap (λ (k : ℕ). get_or f k 0 % 8380417) place)
    (power-mod 8380417 (roots 1 i) (root i) s
    (from_table (λ b. roots 1 b % 8380417) (λ b. root b % 8380417) 0 256 i last_roots (omega arith) (omega arith))))

pub layers-transform : (f : List ℕ) → IsPolynomial 8380417 f → layers f ≡ transform f
layers-transform f is =
    let ready : Ready 8380417 1 256 (roots 1) f (layers f) = all-layers f is in
    same-numbers (layers f) (transform f) ready.size (length-transform f)
    (λ i inside. number-at f i is inside ∙ sym (transform-at f i inside))
