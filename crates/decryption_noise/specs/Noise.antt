-- The noise of a decryption (FIPS 203, sections 5.2 and 5.3), over the ring. With u' and v' for u and v
-- after rounding, v' - s·u' is the message, Decompress_1 of its bits, and the noise.
use Rattle.std.specs.Prelude.{ℕ, zero, suc, ◌*◌, ◌<◌, ℤ, pos, ◌-ℤ◌, ◌≤ℤ◌, neg_ℤ, List, drop, map, nat_le, if◌then◌else◌, slice_index_or}
use Rattle.kem_hash.specs.Family.{Family}
use Rattle.module_lattice.specs.Bits.{byte_bit}
use Rattle.module_lattice.specs.Ring.{difference, product, sum}
use Rattle.module_lattice.specs.Vectors.{dot_product, matrix_product, vector_sum}
use Rattle.ml_kem.specs.Encapsulation.{key_and_coins}
use Rattle.ml_kem.specs.Encryption.{decompressed}
use Rattle.ml_kem.specs.Keys.{Key}
use Rattle.ml_kem.specs.Matrix.{noise, noise_polynomial, transposed}
use Rattle.ml_kem.specs.Parameters.{Parameters, q}
use Rattle.ml_kem.specs.Rounding.{compress, decompress}

-- what an encryption draws: the vectors y and e1 and the polynomial e2
pub record Randomness : Type 0 where
  pub y : List (List ℕ)
  pub e1 : List (List ℕ)
  pub e2 : List ℕ

-- what K-PKE.Encrypt draws by the coins r (algorithm 14, lines 9 to 17)
abbrev pub randomness : Parameters → Family → List ℕ → Randomness
randomness set family r = record {
  y = noise family set.eta1 r 0 set.k;
  e1 = noise family set.eta2 r set.k set.k;
  e2 = noise_polynomial family set.eta2 r (2 * set.k);
}

-- u before rounding: A^T·y + e1 (algorithm 14, line 19)
unfoldable pub unrounded_u : Parameters → Key → Randomness → List (List ℕ)
unrounded_u set key drawn = vector_sum q (matrix_product q (product q) (transposed set.k key.a) drawn.y) drawn.e1

-- v before rounding: t·y + e2 + the message (algorithm 14, line 21)
unfoldable pub unrounded_v : Key → Randomness → List ℕ → List ℕ
unrounded_v key drawn m = sum q (sum q (dot_product q (product q) key.t drawn.y) drawn.e2) (decompressed 1 m)

-- a number after rounding to d bits
abbrev pub rounded : ℕ → ℕ → ℕ
rounded d x = decompress d (compress d x)

-- what rounding to d bits changes in a polynomial
unfoldable pub change : ℕ → List ℕ → List ℕ
change d f = difference q (map (rounded d) f) f

-- cu: what rounding changes in u
abbrev pub change_of_u : Parameters → Key → Randomness → List (List ℕ)
change_of_u set key drawn = map (change set.du) (unrounded_u set key drawn)

-- cv: what rounding changes in v
abbrev pub change_of_v : Parameters → Key → Randomness → List ℕ → List ℕ
change_of_v set key drawn m = change set.dv (unrounded_v key drawn m)

-- e·y + e2 + cv - s·(e1 + cu)
unfoldable pub noise_sum : List (List ℕ) → List (List ℕ) → Randomness → List (List ℕ) → List ℕ → List ℕ
noise_sum s e drawn cu cv =
    difference q (sum q (sum q (dot_product q (product q) e drawn.y) drawn.e2) cv) (dot_product q (product q) s (vector_sum q drawn.e1 cu))

-- the noise modulo q, of an encryption of m by the coins r under a key
abbrev pub noise_modulo : Parameters → Family → Key → List ℕ → List ℕ → List ℕ
noise_modulo set family key m r =
    let drawn = randomness set family r in
    noise_sum key.s key.e drawn (change_of_u set key drawn) (change_of_v set key drawn m)

-- a number modulo q, taken from -1664 to 1664
abbrev pub centred : ℕ → ℤ
centred x = if nat_le x 1664 then pos x else pos x -ℤ pos q

-- the noise: its 256 coefficients, each taken from -1664 to 1664
abbrev pub noise_of : Parameters → Family → Key → List ℕ → List ℕ → List ℤ
noise_of set family key m r = map centred (noise_modulo set family key m r)

-- the noise at which a bit is decrypted rightly: from -832 to 832 for a 0, and from -832 to 831 for a 1
abbrev pub IsInside : ℕ → ℤ → Type 0
IsInside zero noise = (neg_ℤ (pos 832) ≤ℤ noise) × (noise ≤ℤ pos 832)
IsInside (suc b) noise = (neg_ℤ (pos 832) ≤ℤ noise) × (noise ≤ℤ pos 831)

-- all 256 coefficients are inside, each for its bit of the message
abbrev pub AllInside : List ℕ → List ℤ → Type 0
AllInside m noise = (i : ℕ) → i < 256 → IsInside (byte_bit m i) (slice_index_or noise i (pos 0))

-- the coins of an honest encryption of m: the second half of G(m, H(ek)) (algorithm 17, line 1)
abbrev pub honest_coins : Family → List ℕ → List ℕ → List ℕ
honest_coins family ek m = drop 32 (key_and_coins family ek m)
