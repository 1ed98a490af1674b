-- HKDF (RFC 5869) as functions on lists of bytes, over any hash function on such lists and the
-- length of that hash function's blocks in bytes. Section numbers are the RFC's.
use Rattle.std.specs.Prelude.{ℕ, zero, suc, ◌+◌, List, [], ◌∷◌, ◌++◌, length, take}
use Rattle.std.specs.Int.{div_ceil}
use Rattle.hkdf_core.specs.Hmac.{hmac}

-- HKDF-Extract(salt, IKM): the salt is the key of HMAC (2.2). The salt that the RFC takes where none
-- is given, HashLen zeros, makes the same key as the empty salt.
abbrev pub extract : (List ℕ → List ℕ) → ℕ → List ℕ → List ℕ → List ℕ
extract hash block_size salt ikm = hmac hash block_size salt ikm

-- T(i), where mac is HMAC under the PRK (2.3): T(0) is empty, and the number i is one byte
unfoldable pub output_block : (List ℕ → List ℕ) → List ℕ → ℕ → List ℕ
output_block mac info zero = []
output_block mac info (suc i) = mac (output_block mac info i ++ info ++ (i + 1) ∷ [])

-- T(1) | T(2) | .. | T(n) (2.3)
unfoldable pub output_blocks : (List ℕ → List ℕ) → List ℕ → ℕ → List ℕ
output_blocks mac info zero = []
output_blocks mac info (suc n) = output_blocks mac info n ++ output_block mac info (suc n)

-- HKDF-Expand(PRK, info, L): the first L bytes of T(1) | .. | T(N), where N = ceil(L / HashLen), for
-- an L of at most 255 * HashLen (2.3). HashLen is the length of the hash function's values.
abbrev pub expand : (List ℕ → List ℕ) → ℕ → List ℕ → List ℕ → ℕ → List ℕ
expand hash block_size prk info len =
    take len (output_blocks (hmac hash block_size prk) info (div_ceil len (length (hash []))))
