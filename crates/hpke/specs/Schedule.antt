-- The key schedule of RFC 9180, section 5.1, and the contexts that it gives.
use Rattle.std.specs.Prelude.{ℕ, List, [], ◌∷◌, ◌++◌, codes, Option, Some}
use Rattle.std.specs.Option.{option_map}
use Rattle.hpke.specs.Labels.{hpke_suite, labeled_extract, labeled_expand}

-- what a KDF brings to the key schedule (section 7.2): HKDF's hash function, the lengths of its
-- blocks and its digests (Nh), and its identifier
pub record KdfAlgorithm : Type 0 where
  pub hash : List ℕ → List ℕ
  pub block_size : ℕ
  pub digest_size : ℕ
  pub kdf_id : ℕ

-- what an AEAD brings to the key schedule (section 7.3): the lengths of a key (Nk) and of a nonce
-- (Nn), and its identifier
pub record AeadAlgorithm : Type 0 where
  pub key_size : ℕ
  pub nonce_size : ℕ
  pub aead_id : ℕ

-- the algorithms of a context: a KEM's identifier, a KDF and an AEAD
pub record Suite : Type 0 where
  pub kem_id : ℕ
  pub kdf : KdfAlgorithm
  pub aead : AeadAlgorithm

-- the suite of a KEM's identifier, a KDF and an AEAD
abbrev pub suite_of : ℕ → KdfAlgorithm → AeadAlgorithm → Suite
suite_of kem_id kdf aead = record { kem_id = kem_id; kdf = kdf; aead = aead }

-- a context: its secrets, and the number of its next message, or none once the last number was used
pub record Context : Type 0 where
  pub key : List ℕ
  pub base_nonce : List ℕ
  pub exporter_secret : List ℕ
  pub next : Option ℕ

-- what a mode brings to the key schedule (section 5): its number (table 1), the pre-shared key and
-- that key's identity, both empty in the modes without one
pub record Mode : Type 0 where
  pub number : ℕ
  pub psk : List ℕ
  pub psk_id : List ℕ

-- mode Base, without a pre-shared key and without a sender's identity
abbrev pub mode_base : Mode
mode_base = record { number = 0x00; psk = []; psk_id = [] }

-- suite_id of a context (section 5.1)
abbrev pub suite_id : Suite → List ℕ
suite_id s = hpke_suite s.kem_id s.kdf.kdf_id s.aead.aead_id

-- LabeledExtract of a context (section 4)
abbrev pub suite_extract : Suite → List ℕ → List ℕ → List ℕ → List ℕ
suite_extract s salt label ikm = labeled_extract s.kdf.hash s.kdf.block_size salt (suite_id s) label ikm

-- LabeledExpand of a context (section 4)
abbrev pub suite_expand : Suite → List ℕ → List ℕ → List ℕ → ℕ → List ℕ
suite_expand s prk label info len = labeled_expand s.kdf.hash s.kdf.block_size prk (suite_id s) label info len

-- key_schedule_context (section 5.1)
unfoldable pub schedule_context : Suite → ℕ → List ℕ → List ℕ → List ℕ
schedule_context s mode info psk_id =
    mode ∷ suite_extract s [] (codes "psk_id_hash") psk_id ++ suite_extract s [] (codes "info_hash") info

-- KeySchedule(mode, shared_secret, info, psk, psk_id) (section 5.1), at number 0
unfoldable pub schedule : Suite → ℕ → List ℕ → List ℕ → List ℕ → List ℕ → Context
schedule s mode shared info psk psk_id =
    let context = schedule_context s mode info psk_id in
    let secret = suite_extract s shared (codes "secret") psk in
    record {
      key = suite_expand s secret (codes "key") context s.aead.key_size;
      base_nonce = suite_expand s secret (codes "base_nonce") context s.aead.nonce_size;
      exporter_secret = suite_expand s secret (codes "exp") context s.kdf.digest_size;
      next = Some 0;
    }

-- Context.Export(exporter_context, L) (section 5.3), for an L of at most 255 digests
abbrev pub export_of : Suite → Context → List ℕ → ℕ → List ℕ
export_of s context exporter_context len = suite_expand s context.exporter_secret (codes "sec") exporter_context len

-- what a sender's setup gives, of the secret and the encapsulated key that its encapsulation made:
-- the encapsulated key and the context (section 5.1)
abbrev pub sender_setup : Suite → Mode → List ℕ → Option (List ℕ × List ℕ) → Option (List ℕ × Context)
sender_setup s mode info made = option_map (λ m. (m.1, schedule s mode.number m.0 info mode.psk mode.psk_id)) made

-- what a recipient's setup gives, of the secret that its decapsulation found: the context (section 5.1)
abbrev pub receiver_setup : Suite → Mode → List ℕ → Option (List ℕ) → Option Context
receiver_setup s mode info found = option_map (λ shared. schedule s mode.number shared info mode.psk mode.psk_id) found
