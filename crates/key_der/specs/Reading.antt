-- What reading a key's text in DER answers. Nothing is read but the two shapes of keys: a header, and a
-- key of one length.
use Rattle.std.specs.Prelude.{◌≡◌, ◌==◌, ℕ, ◌+◌, List, [], ◌∷◌, Option, None, Some, Result, Ok, Err, length, min, if◌then◌else◌}
use Rattle.std.specs.Option.{option_map, option_or}
use Rattle.kem_hash.specs.Family.{Family}
use Rattle.ml_kem.specs.Expanded.{SecretKey, key_of_seed}
use Rattle.ml_kem.specs.Keys.{IsEncapsulationKey, key_of}
use Rattle.ml_kem.specs.Parameters.{Parameters}
use Rattle.key_der.specs.Keys.{one_asymmetric_key, private_header, public_header, seed_size, subject_public_key_info}
use Rattle.key_der.specs.declared.error.DerError.{DerError}
use Rattle.key_der.specs.declared.error.DerError.TheVariants.{InvalidKey, NoMemory, NoSeed, NotThisShape, XofExhausted}

-- the first place at which two texts both have a byte, and not the same one
abbrev pub first_difference : List ℕ → List ℕ → Option ℕ
first_difference [] text = None
first_difference (a ∷ header) [] = None
first_difference (a ∷ header) (b ∷ text) = if a == b then option_map (λ place. place + 1) (first_difference header text) else Some 0

-- where lengths differ, the smaller of them
abbrev pub shorter : ℕ → ℕ → Option ℕ
shorter expected given = if expected == given then None else Some (min expected given)

-- where a text leaves the shape of a header and `size` bytes of a key: at the first byte that isn't the
-- header's, or else, where the length is another one, at the smaller of the two lengths
unfoldable pub mismatch : List ℕ → ℕ → List ℕ → Option ℕ
mismatch header size text = option_or (first_difference header text) (shorter (length header + size) (length text))

-- a text is the private key of a seed
pub record IsPrivateKey (set : Parameters) (seed text : List ℕ) : Type 0 where
  pub size : length seed ≡ seed_size
  pub spelled : text ≡ one_asymmetric_key set seed

-- a text is the public key of these bytes, which have an encapsulation key's length
pub record IsPublicKey (set : Parameters) (ek text : List ℕ) : Type 0 where
  pub size : length ek ≡ set.ek_size
  pub spelled : text ≡ subject_public_key_info set ek

-- What reading a private key answers: the key that its seed gives, seen by `view`, or XofExhausted where
-- the seed gives none; and NotThisShape where the text leaves the shape. Want of memory is free, where
-- the text has the shape.
abbrev pub ReadsPrivateKey : {X : Type 0} → (X → SecretKey) → Parameters → Family → List ℕ → Result X DerError → Type 0
ReadsPrivateKey view set family text (Ok key) = (seed : List ℕ) × IsPrivateKey set seed text
    × (option_map (key_of_seed seed) (key_of set family seed) ≡ Some (view key))
ReadsPrivateKey view set family text (Err (NotThisShape place)) = mismatch (private_header set) seed_size text ≡ Some place
ReadsPrivateKey view set family text (Err XofExhausted) = (seed : List ℕ) × IsPrivateKey set seed text
    × (option_map (key_of_seed seed) (key_of set family seed) ≡ None)
ReadsPrivateKey view set family text (Err NoMemory) = (seed : List ℕ) × IsPrivateKey set seed text
ReadsPrivateKey view set family text (Err InvalidKey) = ⊥
ReadsPrivateKey view set family text (Err NoSeed) = ⊥

-- What reading a public key answers: its bytes, seen by `view`, where they pass the checks of an
-- encapsulation key, and else InvalidKey; and NotThisShape where the text leaves the shape. Want of memory
-- is free, where the text is a key's.
abbrev pub ReadsPublicKey : {X : Type 0} → (X → List ℕ) → Parameters → List ℕ → Result X DerError → Type 0
ReadsPublicKey view set text (Ok key) = IsPublicKey set (view key) text × IsEncapsulationKey set (view key)
ReadsPublicKey view set text (Err (NotThisShape place)) = mismatch (public_header set) set.ek_size text ≡ Some place
ReadsPublicKey view set text (Err InvalidKey) = (ek : List ℕ) × IsPublicKey set ek text × (¬ IsEncapsulationKey set ek)
ReadsPublicKey view set text (Err NoMemory) = (ek : List ℕ) × IsPublicKey set ek text
ReadsPublicKey view set text (Err XofExhausted) = ⊥
ReadsPublicKey view set text (Err NoSeed) = ⊥
