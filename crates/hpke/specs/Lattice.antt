-- The KEM of ML-KEM: a private key is known by the seed that it is made of.
use Rattle.std.specs.Prelude.{◌≡◌, ◌≢◌, ℕ, ◌+◌, ◌-◌, List, [], length, Option, Some, None}
use Rattle.std.specs.Option.{option_map, option_map_or, option_and_then}
use Rattle.kem_hash.specs.Family.{Family}
use Rattle.ml_kem.specs.Encapsulation.{decaps, encaps}
use Rattle.ml_kem.specs.Keys.{key_of}
use Rattle.ml_kem.specs.Parameters.{Parameters}
use Rattle.hpke.specs.Labels.{derived_key}

-- the identifier: 0x0040 of ML-KEM-512, 0x0041 of ML-KEM-768 and 0x0042 of ML-KEM-1024
abbrev pub lattice_kem_id : Parameters → ℕ
lattice_kem_id set = 0x0040 + (set.k - 2)

-- any 64 bytes are a private key where each sample of their matrix is there
abbrev pub IsLatticeSeed : Parameters → Family → List ℕ → Type 0
IsLatticeSeed set family seed = (length seed ≡ 64) × (key_of set family seed ≢ None)

-- the public key of a private key
abbrev pub lattice_public : Parameters → Family → List ℕ → List ℕ
lattice_public set family sk = option_map_or (λ key. key.ek) (key_of set family sk) []

-- the secret in a ciphertext, or none with a sender's identity
abbrev pub lattice_decap : Parameters → Family → List ℕ → Option (List ℕ) → List ℕ → Option (List ℕ)
lattice_decap set family sk None enc = option_and_then (λ key. decaps set family key.s key.ek key.z enc) (key_of set family sk)
lattice_decap set family sk (Some sender) enc = None

-- the secret and the ciphertext by what was drawn, or none with a sender's identity or where a sample
-- of the public key's matrix is none
abbrev pub lattice_encap : Parameters → Family → List ℕ → Option (List ℕ × List ℕ) → List ℕ → Option (List ℕ × List ℕ)
lattice_encap set family pk None draw = option_map (λ made. (made.1, made.0)) (encaps set family pk draw)
lattice_encap set family pk (Some sender) draw = None

-- the seed of input keying material, by HKDF-SHA256
abbrev pub lattice_seed : Parameters → List ℕ → List ℕ
lattice_seed set ikm = derived_key (lattice_kem_id set) ikm 64

-- the pair of keys of input keying material, or none where a sample of the seed's matrix is none
abbrev pub lattice_derive : Parameters → Family → List ℕ → Option (List ℕ × List ℕ)
lattice_derive set family ikm = let seed = lattice_seed set ikm in option_map (λ key. (seed, key.ek)) (key_of set family seed)
