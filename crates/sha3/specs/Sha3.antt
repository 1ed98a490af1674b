-- The functions of SHA-3 (FIPS 202, section 6): what stands behind the message tells them apart.
use Rattle.std.specs.Prelude.{ℕ, List, [], ◌∷◌}
use Rattle.sha3.specs.Sponge.{keccak}

-- the bits behind a message that is hashed (6.1)
abbrev pub hash_suffix : List ℕ
hash_suffix = 0 ∷ 1 ∷ []

-- the bits behind a message of SHAKE (6.2)
abbrev pub xof_suffix : List ℕ
xof_suffix = 1 ∷ 1 ∷ 1 ∷ 1 ∷ []

-- SHA3-256, 32 bytes (6.1)
abbrev pub sha3_256 : List ℕ → List ℕ
sha3_256 message = keccak 512 hash_suffix message 32

-- SHA3-512, 64 bytes (6.1)
abbrev pub sha3_512 : List ℕ → List ℕ
sha3_512 message = keccak 1024 hash_suffix message 64

-- SHAKE128, d bytes (6.2)
abbrev pub shake128 : List ℕ → ℕ → List ℕ
shake128 message d = keccak 256 xof_suffix message d

-- SHAKE256, d bytes (6.2)
abbrev pub shake256 : List ℕ → ℕ → List ℕ
shake256 message d = keccak 512 xof_suffix message d
