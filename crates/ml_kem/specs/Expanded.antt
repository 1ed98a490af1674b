-- What a decapsulation key holds, and its expanded form (FIPS 203, sections 6.1 and 7.3).
use Rattle.std.specs.Prelude.{◌≡◌, ◌&&◌, Bool, ℕ, ◌+◌, List, ◌++◌, Option, None, Some, length, take, drop, map, nat_eq}
use Rattle.std.specs.Cmp.Lexicographic.{pointwise}
use Rattle.std.specs.List.{flat_map}
use Rattle.kem_hash.specs.Family.{Family}
use Rattle.module_lattice.specs.Groups.{groups}
use Rattle.ml_kem.specs.Keys.{IsEncapsulationKey, Key, decoded_vector, ring_vector, vector_size}
use Rattle.ml_kem.specs.Parameters.{Parameters}
use Rattle.lattice_transform.specs.Transform.{transform}

-- a decapsulation key: the seed that it was made of, if it was made of one, the vector s, its
-- transforms, the encapsulation key and the secret z of rejections
pub record SecretKey : Type 0 where
  pub seed : Option (List ℕ)
  pub s : List (List ℕ)
  pub s_hat : List (List ℕ)
  pub ek : List ℕ
  pub z : List ℕ

-- the key that a seed gives
abbrev pub key_of_seed : List ℕ → Key → SecretKey
key_of_seed seed key = record { seed = Some seed; s = key.s; s_hat = map transform key.s; ek = key.ek; z = key.z }

-- the expanded form: s, ek, H(ek) and z (algorithm 16, line 3)
abbrev pub expanded_form : Family → SecretKey → List ℕ
expanded_form family key = flat_map (groups 12) key.s_hat ++ key.ek ++ family.h_of key.ek ++ key.z

-- the parts of an expanded form (algorithm 16, line 3). The first is the vector of the transforms of s
abbrev pub secret_part : Parameters → List ℕ → List ℕ
secret_part set bytes = take (vector_size set) bytes

-- behind it the encapsulation key
abbrev pub public_part : Parameters → List ℕ → List ℕ
public_part set bytes = take set.ek_size (drop (vector_size set) bytes)

-- then the hash of that key
abbrev pub hash_part : Parameters → List ℕ → List ℕ
hash_part set bytes = take 32 (drop (vector_size set + set.ek_size) bytes)

-- and the secret z of rejections
abbrev pub z_part : Parameters → List ℕ → List ℕ
z_part set bytes = drop (vector_size set + set.ek_size + 32) bytes

-- the checks of an expanded form: its length and the hash of its public part (section 7.3), and that the
-- public part is an encapsulation key (section 7.2), which the standard doesn't ask for here
pub record IsExpandedKey (set : Parameters) (family : Family) (bytes : List ℕ) : Type 0 where
  pub size : length bytes ≡ set.dk_size
  pub public : IsEncapsulationKey set (public_part set bytes)
  pub hash : family.h_of (public_part set bytes) ≡ hash_part set bytes

-- the key that an expanded form gives
abbrev pub key_of_expanded : Parameters → List ℕ → SecretKey
key_of_expanded set bytes = record {
  seed = None;
  s = ring_vector set (secret_part set bytes);
  s_hat = decoded_vector set (secret_part set bytes);
  ek = public_part set bytes;
  z = z_part set bytes;
}

-- keys are equal where their transforms of s, their encapsulation keys and their z are: the seed counts
-- for nothing
abbrev pub same_key : SecretKey → SecretKey → Bool
same_key a b = pointwise (pointwise nat_eq) a.s_hat b.s_hat && pointwise nat_eq a.ek b.ek && pointwise nat_eq a.z b.z
