-- Seven layers are the transform.
use Rattle.std.proofs.Common.{◌≡◌, ℕ, ◌+◌, ◌*◌, ◌/◌, ◌%◌, ◌^◌, ◌<◌, ◌≤◌, List, get_or, map, refl, sym, ap, ◌∙◌, arith}
use Rattle.std.specs.List.{range_with_len}
use Rattle.module_lattice.specs.Pairs.{gamma}
use Rattle.module_lattice.specs.Ring.{IsPolynomial}
use Rattle.lattice_transform.specs.Layers.{layer, layers, zeta}
use Rattle.lattice_transform.specs.Transform.{transform, transform_number}
use Rattle.lattice_transform.proofs.Inverse.{length-transform, transform-at}
use Rattle.lattice_transform.proofs.Places.{same-pairs}
use Rattle.lattice_transform.proofs.Powers.{power-mod}
use Rattle.lattice_transform.proofs.Remainders.{Ready, Squares, layer-remainders, ready-first, root_of, squares-first, squares-from}
use Rattle.lattice_transform.proofs.Stages.{layer-stage, length-layer, zeta-reduced}
use Rattle.lattice_transform.proofs.Sums.{over-mod, times-mod}
use Rattle.lattice_transform.proofs.Tables.{from_table}

-- ---- the squares of the zetas, by computation

-- the roots of the blocks of m numbers
abbrev roots : ℕ → ℕ → ℕ
roots m b = root_of 3329 zeta m b

squares_64 : map (λ g. zeta (128 / 64 + g) ^ 2 % 3329) (range_with_len 0 2) ≡ map (λ g. roots (2 * 64) g % 3329) (range_with_len 0 2)
unfolding zeta
squares_64 = refl

squares_32 : map (λ g. zeta (128 / 32 + g) ^ 2 % 3329) (range_with_len 0 4) ≡ map (λ g. roots (2 * 32) g % 3329) (range_with_len 0 4)
unfolding zeta
squares_32 = refl

squares_16 : map (λ g. zeta (128 / 16 + g) ^ 2 % 3329) (range_with_len 0 8) ≡ map (λ g. roots (2 * 16) g % 3329) (range_with_len 0 8)
unfolding zeta
squares_16 = refl

squares_8 : map (λ g. zeta (128 / 8 + g) ^ 2 % 3329) (range_with_len 0 16) ≡ map (λ g. roots (2 * 8) g % 3329) (range_with_len 0 16)
unfolding zeta
squares_8 = refl

squares_4 : map (λ g. zeta (128 / 4 + g) ^ 2 % 3329) (range_with_len 0 32) ≡ map (λ g. roots (2 * 4) g % 3329) (range_with_len 0 32)
unfolding zeta
squares_4 = refl

squares_2 : map (λ g. zeta (128 / 2 + g) ^ 2 % 3329) (range_with_len 0 64) ≡ map (λ g. roots (2 * 2) g % 3329) (range_with_len 0 64)
unfolding zeta
squares_2 = refl

-- the roots of the last layer are g(i)
last_roots : map (λ b. roots 2 b % 3329) (range_with_len 0 128) ≡ map (λ b. gamma b % 3329) (range_with_len 0 128)
unfolding zeta gamma
last_roots = refl

-- ---- all layers

next : (m t : ℕ) (root : ℕ → ℕ) (f v : List ℕ) → 1 ≤ m → m * t ≡ 128 → Squares 3329 zeta m t root → Ready 3329 (2 * m) t root f v
    → Ready 3329 m (2 * t) (roots m) f (layer m v)
next m t root f v positive whole squares ready = record {
  size = length-layer m t v positive whole ready.size;
  remainders = layer-remainders 3329 (omega arith) zeta zeta-reduced m t root f v (layer m v) whole (layer-stage m t v positive whole ready.size) squares ready.remainders;
}

all-layers : (f : List ℕ) → IsPolynomial 3329 f → Ready 3329 2 128 (roots 2) f (layers f)
all-layers f is =
    let v0 : Ready 3329 256 1 (λ b. 0) f f = ready-first 3329 f is in
    let v1 : Ready 3329 128 2 (roots 128) f (layer 128 f) = next 128 1 (λ b. 0) f f (omega arith) refl (squares-first 3329 zeta) v0 in
    let v2 : Ready 3329 64 4 (roots 64) f (layer 64 (layer 128 f)) = next 64 2 (roots 128) f (layer 128 f) (omega arith) refl (squares-from 3329 zeta 64 2 squares_64) v1 in
    let v3 : Ready 3329 32 8 (roots 32) f (layer 32 (layer 64 (layer 128 f))) =
    next 32 4 (roots 64) f (layer 64 (layer 128 f)) (omega arith) refl (squares-from 3329 zeta 32 4 squares_32) v2 in
    let v4 : Ready 3329 16 16 (roots 16) f (layer 16 (layer 32 (layer 64 (layer 128 f)))) =
    next 16 8 (roots 32) f (layer 32 (layer 64 (layer 128 f))) (omega arith) refl (squares-from 3329 zeta 16 8 squares_16) v3 in
    let v5 : Ready 3329 8 32 (roots 8) f (layer 8 (layer 16 (layer 32 (layer 64 (layer 128 f))))) =
    next 8 16 (roots 16) f (layer 16 (layer 32 (layer 64 (layer 128 f)))) (omega arith) refl (squares-from 3329 zeta 8 16 squares_8) v4 in
    let v6 : Ready 3329 4 64 (roots 4) f (layer 4 (layer 8 (layer 16 (layer 32 (layer 64 (layer 128 f)))))) =
    next 4 32 (roots 8) f (layer 8 (layer 16 (layer 32 (layer 64 (layer 128 f))))) (omega arith) refl (squares-from 3329 zeta 4 32 squares_4) v5 in
    next 2 64 (roots 4) f (layer 4 (layer 8 (layer 16 (layer 32 (layer 64 (layer 128 f)))))) (omega arith) refl (squares-from 3329 zeta 2 64 squares_2) v6

number-at : (f : List ℕ) (parity i : ℕ) → IsPolynomial 3329 f → parity < 2 → i < 128 → get_or (layers f) (2 * i + parity) 0 ≡ transform_number f parity i
number-at f parity i is low inside =
    let place : 2 * i + parity ≡ i * 2 + parity = omega arith in
    let ready : Ready 3329 2 128 (roots 2) f (layers f) = all-layers f is in
    ap (λ (k : ℕ). get_or (layers f) k 0) place
    ∙ ready.remainders.at i parity inside low
    ∙ over-mod 3329 0 128 (λ s. get_or f (parity + s * 2) 0 * roots 2 i ^ s) (λ s. get_or f (2 * s + parity) 0 * gamma i ^ s)
    (λ s s_low s_high.
    let place : parity + s * 2 ≡ 2 * s + parity = omega arith in
    times-mod 3329 (get_or f (parity + s * 2) 0) (get_or f (2 * s + parity) 0) (roots 2 i ^ s) (gamma i ^ s)
    (ap (λ (k : ℕ). get_or f k 0 % 3329) place)
    (power-mod 3329 (roots 2 i) (gamma i) s
    (from_table (λ b. roots 2 b % 3329) (λ b. gamma b % 3329) 0 128 i last_roots (omega arith) (omega arith))))

pub layers-transform : (f : List ℕ) → IsPolynomial 3329 f → layers f ≡ transform f
layers-transform f is =
    let ready : Ready 3329 2 128 (roots 2) f (layers f) = all-layers f is in
    same-pairs (layers f) (transform f) 128 ready.size (length-transform f)
    (λ parity i low inside. number-at f parity i is low inside ∙ sym (transform-at f parity i low inside))
