-- What reading answers, of what the calls below answered.
use Rattle.std.proofs.Common.{◌≡◌, ℕ, List, ◌++◌, length, sym, ap, ◌∙◌, refl, Option, None, Some, Err}
use Rattle.std.specs.Prelude.{IsSomeAnd}
use Rattle.std.specs.Option.{option_map}
use Rattle.kem_hash.specs.Family.{Family}
use Rattle.ml_kem.specs.Answers.{Answers}
use Rattle.ml_kem.specs.Expanded.{SecretKey, key_of_seed}
use Rattle.ml_kem.specs.Keys.{IsEncapsulationKey, Key, key_of}
use Rattle.ml_kem.specs.Parameters.{IsSet, Parameters}
use Rattle.ml_kem.specs.declared.error.KemError.{KemError}
use Rattle.ml_kem.specs.declared.error.KemError.TheVariants as kem
use Rattle.ml_kem.specs.declared.error.KeyError.{KeyError}
use Rattle.ml_kem.specs.declared.error.KeyError.TheVariants as key
use Rattle.key_der.specs.Keys.{one_asymmetric_key, private_header, public_header, seed_size}
use Rattle.key_der.specs.Reading.{IsPrivateKey, IsPublicKey, ReadsPrivateKey, ReadsPublicKey}
use Rattle.key_der.specs.private.Refusals.{of_kem, of_key}
use Rattle.key_der.proofs.Texts.{one_asymmetric_key-parts, subject_public_key_info-parts}

-- a header and a seed behind it
pub is_private_key : (set : Parameters) (header seed text : List ℕ) → IsSet set → header ≡ private_header set → text ≡ header ++ seed
    → length seed ≡ seed_size → IsPrivateKey set seed text
is_private_key set header seed text set_is header_is whole sized = record {
  size = sized;
  spelled = whole ∙ ap (λ (xs : List ℕ). xs ++ seed) header_is ∙ sym (one_asymmetric_key-parts set seed set_is sized);
}

-- the same where the seed was copied from behind the header
pub is_copied_key : (set : Parameters) (header bytes seed text : List ℕ) → IsSet set → header ≡ private_header set → text ≡ header ++ bytes
    → length bytes ≡ seed_size → seed ≡ bytes → IsPrivateKey set seed text
is_copied_key set header bytes seed text set_is header_is whole sized copied =
    is_private_key set header seed text set_is header_is (whole ∙ ap (λ (xs : List ℕ). header ++ xs) (sym copied)) (ap length copied ∙ sized)

-- a header and an encapsulation key behind it
pub is_public_key : (set : Parameters) (header ek text : List ℕ) → IsSet set → header ≡ public_header set → text ≡ header ++ ek
    → length ek ≡ set.ek_size → IsPublicKey set ek text
is_public_key set header ek text set_is header_is whole sized = record {
  size = sized;
  spelled = whole ∙ ap (λ (xs : List ℕ). xs ++ ek) header_is ∙ sym (subject_public_key_info-parts set ek set_is sized);
}

-- a seed that gave no key
pub refused_seed : (set : Parameters) (family : Family) (seed text : List ℕ) (error : KemError) → IsPrivateKey set seed text
    → Answers {X = SecretKey} {Y = SecretKey} (λ key. key) (Err error) (option_map (key_of_seed seed) (key_of set family seed))
    → ReadsPrivateKey {X = SecretKey} (λ key. key) set family text (Err (of_kem error))
refused_seed set family seed text kem.NoMemory is answered = (seed, is)
refused_seed set family seed text kem.XofExhausted is answered = (seed, is, answered)

-- bytes that were no key
pub refused_key : (set : Parameters) (ek text : List ℕ) (error : KeyError) → IsPublicKey set ek text
    → (error ≡ key.InvalidKey → ¬ IsEncapsulationKey set ek)
    → ReadsPublicKey {X = List ℕ} (λ key. key) set text (Err (of_key error))
refused_key set ek text key.NoMemory is answered = (ek, is)
refused_key set ek text key.InvalidKey is answered = (ek, is, answered refl)

-- the key of a seed holds the seed
pub seed_of : (seed : List ℕ) (made : Option Key) (key : SecretKey) → option_map (key_of_seed seed) made ≡ Some key → key.seed ≡ Some seed
seed_of seed None key is = cc
seed_of seed (Some k) key is =
    let same : key_of_seed seed k ≡ key = cc in
    sym (ap (λ (x : SecretKey). x.seed) same)

-- what was read is what is written of the key
pub written_again : (set : Parameters) (seed text : List ℕ) (made : Option Key) (key : SecretKey) → IsPrivateKey set seed text
    → option_map (key_of_seed seed) made ≡ Some key → IsSomeAnd key.seed (λ seed. text ≡ one_asymmetric_key set seed)
written_again set seed text made key is made_is = rw (seed_of seed made key made_is) is.spelled
