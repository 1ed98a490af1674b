-- The encryption that ML-KEM stands on (FIPS 203, sections 5.2 and 5.3), over the ring.
use Rattle.std.specs.Prelude.{ℕ, ◌*◌, List, ◌++◌, Option, drop, map}
use Rattle.std.specs.List.{flat_map, range_with_len}
use Rattle.std.specs.Option.{option_map}
use Rattle.kem_hash.specs.Family.{Family}
use Rattle.module_lattice.specs.Groups.{decoded, groups}
use Rattle.module_lattice.specs.Ring.{difference, product, sum}
use Rattle.module_lattice.specs.Vectors.{dot_product, matrix_product, vector_sum}
use Rattle.ml_kem.specs.Keys.{piece, rho_part, ring_vector, vector_part}
use Rattle.ml_kem.specs.Matrix.{matrix, noise, noise_polynomial, transposed}
use Rattle.ml_kem.specs.Parameters.{Parameters, q}
use Rattle.ml_kem.specs.Rounding.{compress, decompress}

-- a polynomial in 32·d bytes: ByteEncode_d of Compress_d
unfoldable pub compressed : ℕ → List ℕ → List ℕ
compressed d f = groups d (map (compress d) f)

-- the polynomial of 32·d bytes: Decompress_d of ByteDecode_d
unfoldable pub decompressed : ℕ → List ℕ → List ℕ
decompressed d bytes = map (decompress d) (decoded q d bytes)

-- K-PKE.Encrypt (algorithm 14) of a message m by the coins r under t and the matrix A, which is taken
-- transposed: u = A^T·y + e1 and v = t·y + e2 + the message
unfoldable pub encrypted_with : Parameters → Family → List (List ℕ) → List ℕ → List ℕ → List (List (List ℕ)) → List ℕ
encrypted_with set family t m r a =
    let y = noise family set.eta1 r 0 set.k in
    let e1 = noise family set.eta2 r set.k set.k in
    let e2 = noise_polynomial family set.eta2 r (2 * set.k) in
    let u = vector_sum q (matrix_product q (product q) (transposed set.k a) y) e1 in
    let v = sum q (sum q (dot_product q (product q) t y) e2) (decompressed 1 m) in
    flat_map (compressed set.du) u ++ compressed set.dv v

-- K-PKE.Encrypt under an encapsulation key, or none where a sample of its rho is none
unfoldable pub encrypt : Parameters → Family → List ℕ → List ℕ → List ℕ → Option (List ℕ)
encrypt set family ek m r =
    option_map (encrypted_with set family (ring_vector set (vector_part set ek)) m r) (matrix family set.k (rho_part set ek))

-- the bytes of u in a ciphertext
abbrev pub u_size : Parameters → ℕ
u_size set = 32 * set.du * set.k

-- u of a ciphertext, after rounding: polynomial i is piece i of 32·du bytes
unfoldable pub rounded_u : Parameters → List ℕ → List (List ℕ)
rounded_u set c = map (λ i. decompressed set.du (piece (32 * set.du) i c)) (range_with_len 0 set.k)

-- v of a ciphertext, after rounding
unfoldable pub rounded_v : Parameters → List ℕ → List ℕ
rounded_v set c = decompressed set.dv (drop (u_size set) c)

-- K-PKE.Decrypt (algorithm 15) under the vector s: the bits of v - s·u, rounded
unfoldable pub decrypt : Parameters → List (List ℕ) → List ℕ → List ℕ
decrypt set s c = compressed 1 (difference q (rounded_v set c) (dot_product q (product q) s (rounded_u set c)))
