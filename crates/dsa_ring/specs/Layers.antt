-- The transform of ML-DSA by eight layers of butterflies (FIPS 204, section 7.5, algorithms 41 and 42),
-- with q = 8380417.
use Rattle.std.specs.Prelude.{ℕ, zero, suc, ◌+◌, ◌-◌, ◌*◌, ◌/◌, ◌^◌, ◌%◌, List, slice_index, slice_set}
use Rattle.module_lattice.specs.Ring.{butterfly, minus, multiple, plus, times}
use Rattle.lattice_transform.specs.Layers.{first_place}
use Rattle.dsa_ring.specs.Transform.{bit_rev8}

-- 1753^BitRev8(k), the zeta of group k. Groups are counted over all layers, from 1.
unfoldable pub zeta : ℕ → ℕ
zeta k = 1753 ^ bit_rev8 k % 8380417

-- a list after the first n butterflies of the layer with this half-length. Butterfly k begins at
-- first_place half k, and its two places stand `half` apart.
unfoldable pub butterflies : ℕ → ℕ → List ℕ → List ℕ
butterflies half zero f = f
butterflies half (suc n) f = butterfly 8380417 (first_place half n) (first_place half n + half) (zeta (128 / half + n / half)) (butterflies half n f)

-- one layer: 128 butterflies
abbrev pub layer : ℕ → List ℕ → List ℕ
layer half f = butterflies half 128 f

-- the eight layers
abbrev pub layers : List ℕ → List ℕ
layers f = layer 1 (layer 2 (layer 4 (layer 8 (layer 16 (layer 32 (layer 64 (layer 128 f)))))))

-- ---- the way back (algorithm 42)

-- with a and b the numbers at i and j, a + b at i and zeta·(b - a) at j, modulo q
abbrev pub inverse_butterfly : ℕ → ℕ → ℕ → List ℕ → List ℕ
inverse_butterfly i j zeta f =
    let a = slice_index f i in
    let b = slice_index f j in
    slice_set (slice_set f i (plus 8380417 a b)) j (times 8380417 zeta (minus 8380417 b a))

-- a list after the first n butterflies of the layer with this half-length. The zetas go downwards.
unfoldable pub inverse_butterflies : ℕ → ℕ → List ℕ → List ℕ
inverse_butterflies half zero f = f
inverse_butterflies half (suc n) f = inverse_butterfly (first_place half n) (first_place half n + half) (zeta (2 * (128 / half) - 1 - n / half)) (inverse_butterflies half n f)

abbrev pub inverse_layer : ℕ → List ℕ → List ℕ
inverse_layer half f = inverse_butterflies half 128 f

-- the eight layers from the last, and then the factor 8347681, which is 1/256 modulo q
abbrev pub inverse_layers : List ℕ → List ℕ
inverse_layers h = multiple 8380417 8347681 (inverse_layer 128 (inverse_layer 64 (inverse_layer 32 (inverse_layer 16 (inverse_layer 8 (inverse_layer 4 (inverse_layer 2 (inverse_layer 1 h))))))))
