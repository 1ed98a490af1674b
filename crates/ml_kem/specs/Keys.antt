-- Keys (FIPS 203, sections 5.1 and 6.1), over the ring: A and t are no transforms here.
use Rattle.std.specs.Prelude.{◌≡◌, ℕ, ◌*◌, ◌<◌, All, length, List, [], ◌∷◌, ◌++◌, Option, take, drop, map}
use Rattle.std.specs.List.{flat_map}
use Rattle.std.specs.Option.{option_map}
use Rattle.kem_hash.specs.Family.{Family}
use Rattle.module_lattice.specs.Groups.{decoded_each, groups, ungroup}
use Rattle.module_lattice.specs.Ring.{product}
use Rattle.module_lattice.specs.Vectors.{matrix_product, vector_sum}
use Rattle.ml_kem.specs.Matrix.{matrix, noise}
use Rattle.ml_kem.specs.Parameters.{Parameters, q}
use Rattle.lattice_transform.specs.Transform.{inverse_transform, transform}

-- what key generation makes of a seed: the seed rho of the matrix, the matrix A, the vectors s, e and t,
-- the encapsulation key and the secret z of rejections (algorithms 13 and 16)
pub record Key : Type 0 where
  pub rho : List ℕ
  pub a : List (List (List ℕ))
  pub s : List (List ℕ)
  pub e : List (List ℕ)
  pub t : List (List ℕ)
  pub ek : List ℕ
  pub z : List ℕ

-- a vector in bytes: ByteEncode_12 of the transform of each polynomial (algorithm 13, lines 19 and 20)
unfoldable pub encoded_vector : List (List ℕ) → List ℕ
encoded_vector v = flat_map (groups 12) (map transform v)

-- K-PKE.KeyGen (algorithm 13) for the two halves of G and the matrix A of rho: noise 0 to k - 1 is s,
-- noise k to 2·k - 1 is e, and t = A·s + e. The encapsulation key is t, encoded, and rho.
unfoldable pub key_with : Parameters → Family → List ℕ → List ℕ → List ℕ → List (List (List ℕ)) → Key
key_with set family rho sigma z a =
    let s = noise family set.eta1 sigma 0 set.k in
    let e = noise family set.eta1 sigma set.k set.k in
    let t = vector_sum q (matrix_product q (product q) a s) e in
    record { rho = rho; a = a; s = s; e = e; t = t; ek = encoded_vector t ++ rho; z = z }

-- rho and sigma, the two halves of G(d, k), where d is the first half of the seed and k one byte
-- (algorithm 13, line 1)
abbrev pub expanded_seed : Parameters → Family → List ℕ → List ℕ
expanded_seed set family seed = family.g_of (take 32 seed ++ set.k ∷ [])

-- ML-KEM.KeyGen_internal (algorithm 16) of the seed d and z, or none where a sample is none
unfoldable pub key_of : Parameters → Family → List ℕ → Option Key
key_of set family seed =
    let expanded = expanded_seed set family seed in
    option_map (key_with set family (take 32 expanded) (drop 32 expanded) (drop 32 seed)) (matrix family set.k (take 32 expanded))

-- the bytes of k polynomials of 256 numbers of 12 bits, which are 384 for each
abbrev pub vector_size : Parameters → ℕ
vector_size set = 384 * set.k

-- the vector part of an encapsulation key (algorithm 14, line 2)
abbrev pub vector_part : Parameters → List ℕ → List ℕ
vector_part set bytes = take (vector_size set) bytes

-- the seed rho behind it (algorithm 14, line 3)
abbrev pub rho_part : Parameters → List ℕ → List ℕ
rho_part set ek = drop (vector_size set) ek

-- the transforms that a vector part holds: ByteDecode_12 of each 384 bytes (algorithm 14, line 2)
unfoldable pub decoded_vector : Parameters → List ℕ → List (List ℕ)
decoded_vector set bytes = decoded_each q 12 set.k bytes

-- the polynomials of a vector part
unfoldable pub ring_vector : Parameters → List ℕ → List (List ℕ)
ring_vector set bytes = map inverse_transform (decoded_vector set bytes)

-- piece i of bytes that are cut into pieces of one size
abbrev pub piece : ℕ → ℕ → List ℕ → List ℕ
piece size i bytes = take size (drop (size * i) bytes)

-- no group of 12 bits of the first k polynomials is q or more
abbrev pub IsReduced : ℕ → List ℕ → Type 0
IsReduced k bytes = (i : ℕ) → i < k → All (λ x. x < q) (ungroup 12 (piece 384 i bytes))

-- the two checks of an encapsulation key (section 7.2)
pub record IsEncapsulationKey (set : Parameters) (bytes : List ℕ) : Type 0 where
  pub size : length bytes ≡ set.ek_size
  pub reduced : IsReduced set.k bytes
