-- The test KEM: the secret is the key XOR the encapsulated key. It has no secrecy.
use Rattle.std.specs.Prelude.{◌≡◌, ℕ, List, length, Option, Some, None}
use Rattle.hpke.specs.Bytes.{IsBytes, xor_bytes}
use Rattle.hpke.specs.Labels.{derived_key}

-- any 32 bytes are a key, and an encapsulated key
abbrev pub IsMaskKey : List ℕ → Type 0
IsMaskKey bytes = (length bytes ≡ 32) × IsBytes bytes

-- the public key is the private key
abbrev pub mask_public : List ℕ → List ℕ
mask_public sk = sk

-- the secret of a key and an encapsulated key, or none with a sender's identity
abbrev pub mask_decap : List ℕ → Option (List ℕ) → List ℕ → Option (List ℕ)
mask_decap sk None enc = Some (xor_bytes sk enc)
mask_decap sk (Some sender) enc = None

-- the secret and the encapsulated key, which is what was drawn, or none with a sender's identity
abbrev pub mask_encap : List ℕ → Option (List ℕ × List ℕ) → List ℕ → Option (List ℕ × List ℕ)
mask_encap pk None draw = Some (xor_bytes pk draw, draw)
mask_encap pk (Some sender) draw = None

-- the key of input keying material, by HKDF-SHA256
abbrev pub mask_key : List ℕ → List ℕ
mask_key ikm = derived_key 0xFF00 ikm 32

-- the pair of keys of input keying material
abbrev pub mask_derive : List ℕ → Option (List ℕ × List ℕ)
mask_derive ikm = Some (mask_key ikm, mask_key ikm)
