-- A KEM for tests: the secret is the sender's key where there is one, and else the recipient's. It has
-- no secrecy.
use Rattle.std.specs.Prelude.{◌≡◌, ℕ, List, length, nat_eq, if◌then◌else◌, Option, Some, None}
use Rattle.std.specs.Option.{option_map}

-- a key as a secret, which has 32 bytes
abbrev pub as_secret : List ℕ → Option (List ℕ)
as_secret key = if nat_eq (length key) 32 then Some key else None

-- the secret of a private key, with or without a sender's public key
abbrev pub key_decap : List ℕ → Option (List ℕ) → List ℕ → Option (List ℕ)
key_decap sk None enc = Some sk
key_decap sk (Some sender) enc = as_secret sender

-- the secret for a public key, with or without a sender's pair of keys, and what was drawn as the
-- encapsulated key
abbrev pub key_encap : List ℕ → Option (List ℕ × List ℕ) → List ℕ → Option (List ℕ × List ℕ)
key_encap pk None draw = Some (pk, draw)
key_encap pk (Some sender) draw = option_map (λ secret. (secret, draw)) (as_secret sender.0)
