-- The labeled functions of RFC 9180, section 4, over a hash function and the length of its blocks.
use Rattle.std.specs.Prelude.{ℕ, List, [], ◌++◌, codes}
use Rattle.sha2.specs.Sha256.{sha256}
use Rattle.hkdf_core.specs.Hkdf.{extract, expand}
use Rattle.hpke.specs.Bytes.{two_bytes}

-- what each label stands behind
abbrev pub version : List ℕ
version = codes "HPKE-v1"

-- the suite of a KEM's own derivations (section 4.1)
abbrev pub kem_suite : ℕ → List ℕ
kem_suite kem_id = codes "KEM" ++ two_bytes kem_id

-- the suite of a context (section 5.1)
abbrev pub hpke_suite : ℕ → ℕ → ℕ → List ℕ
hpke_suite kem_id kdf_id aead_id = codes "HPKE" ++ two_bytes kem_id ++ two_bytes kdf_id ++ two_bytes aead_id

-- LabeledExtract(salt, label, ikm)
abbrev pub labeled_extract : (List ℕ → List ℕ) → ℕ → List ℕ → List ℕ → List ℕ → List ℕ → List ℕ
labeled_extract hash block_size salt suite label ikm = extract hash block_size salt (version ++ suite ++ label ++ ikm)

-- LabeledExpand(prk, label, info, L)
abbrev pub labeled_expand : (List ℕ → List ℕ) → ℕ → List ℕ → List ℕ → List ℕ → List ℕ → ℕ → List ℕ
labeled_expand hash block_size prk suite label info len = expand hash block_size prk (two_bytes len ++ version ++ suite ++ label ++ info) len

-- ExtractAndExpand(dh, kem_context), with L (section 4.1)
abbrev pub extract_and_expand : (List ℕ → List ℕ) → ℕ → List ℕ → List ℕ → List ℕ → ℕ → List ℕ
extract_and_expand hash block_size ikm suite info len =
    labeled_expand hash block_size (labeled_extract hash block_size [] suite (codes "eae_prk") ikm) suite (codes "shared_secret") info len

-- the private key of this length that input keying material gives under a KEM's identifier, by
-- HKDF-SHA256 (section 7.1.3)
abbrev pub derived_key : ℕ → List ℕ → ℕ → List ℕ
derived_key kem_id ikm len = let suite = kem_suite kem_id in
    labeled_expand sha256 64 (labeled_extract sha256 64 [] suite (codes "dkp_prk") ikm) suite (codes "sk") [] len
