-- What the sealing of a mail makes: an encapsulated key and sealed messages, and their stanzas.
use Rattle.std.specs.Prelude.{ℕ, ◌+◌, List, [], ◌∷◌, ◌++◌, map, codes, Option, Some, None}
use Rattle.kem_hash.specs.Family.{Family}
use Rattle.ml_kem.specs.Parameters.{Parameters}
use Rattle.age_format.specs.Stanza.{Stanza}
use Rattle.age_send.specs.Sending.{done}
use Rattle.hpke.specs.Schedule.{Suite, KdfAlgorithm, AeadAlgorithm, Context, mode_base, sender_setup, suite_of}
use Rattle.hpke.specs.Nonce.{nonce_of}
use Rattle.hpke.specs.Lattice.{lattice_kem_id, lattice_encap}

-- what a text is sealed to under a key, a nonce and associated data, or none (RFC 9180, section 4)
abbrev pub SealMeaning : Type 0
SealMeaning = List ℕ → List ℕ → List ℕ → List ℕ → Option (List ℕ)

-- what a message is sealed to under a number of a context, without associated data (RFC 9180,
-- section 5.2)
abbrev pub seal_at : SealMeaning → Context → ℕ → List ℕ → Option (List ℕ)
seal_at seal_of context number text = seal_of context.key (nonce_of context.base_nonce number) [] text

-- the messages, sealed in order from this number on, up to the first that can't be sealed
abbrev pub sealed : (ℕ → List ℕ → Option (List ℕ)) → ℕ → List (List ℕ) → List (List ℕ)
sealed meaning number [] = []
sealed meaning number (text ∷ texts) =
    elim (meaning number text) [ None ↦ [] | Some body ↦ body ∷ sealed meaning (number + 1) texts ]

-- the number of the first message that can't be sealed, or none where all can
abbrev pub unsealed : (ℕ → List ℕ → Option (List ℕ)) → ℕ → List (List ℕ) → Option ℕ
unsealed meaning number [] = None
unsealed meaning number (text ∷ texts) =
    elim (meaning number text) [ None ↦ Some number | Some body ↦ unsealed meaning (number + 1) texts ]

-- how a mail is sealed: the encapsulated key and the context that 32 drawn bytes make, or none, and what
-- a text is sealed to
pub record Sealer : Type 0 where
  pub setup_of : List ℕ → Option (List ℕ × Context)
  pub seal_of : SealMeaning

-- how a suite seals a mail in mode Base with an info: by the secret and the encapsulated key that drawn
-- bytes make for a public key, and what a text is sealed to
abbrev pub sealer_of : Suite → List ℕ → (List ℕ → Option (List ℕ × List ℕ)) → SealMeaning → Sealer
sealer_of suite info encap seal_of = record {
  setup_of = λ draw. sender_setup suite mode_base info (encap draw);
  seal_of = seal_of;
}

-- how a mail is sealed to a lattice key, by the bytes of the encapsulation key
abbrev pub lattice_sealer : Parameters → Family → KdfAlgorithm → AeadAlgorithm → SealMeaning → List ℕ → List ℕ → Sealer
lattice_sealer set family kdf aead seal_of ek info =
    sealer_of (suite_of (lattice_kem_id set) kdf aead) info (lattice_encap set family ek None) seal_of

-- the stanza of an encapsulated key
abbrev pub key_stanza : List ℕ → Stanza
key_stanza key = record { tag = codes "kem"; args = []; body = key }

-- the stanza of a sealed message
abbrev pub message_stanza : List ℕ → Stanza
message_stanza body = record { tag = codes "msg"; args = []; body = body }

-- the number of the first message that can't be sealed by these drawn bytes, or none
unfoldable pub first_unsealed : Sealer → List (List ℕ) → List ℕ → Option ℕ
first_unsealed sealer messages draw =
    elim (sealer.setup_of draw) [ None ↦ None | Some made ↦ unsealed (seal_at sealer.seal_of made.1) 0 messages ]

-- `done` where all messages are sealed, and else nothing
abbrev pub mail_end : Option ℕ → List Stanza
mail_end None = done ∷ []
mail_end (Some number) = []

-- the stanzas behind the encapsulated key: each message, sealed under its number from 0 on, and `done`; they
-- end before the first message that can't be sealed
unfoldable pub sealed_stanzas : (ℕ → List ℕ → Option (List ℕ)) → List (List ℕ) → List Stanza
sealed_stanzas meaning messages = map message_stanza (sealed meaning 0 messages) ++ mail_end (unsealed meaning 0 messages)

-- the stanzas of a mail by these drawn bytes, which are none where they make no encapsulated key
unfoldable pub mail_stanzas : Sealer → List (List ℕ) → List ℕ → List Stanza
mail_stanzas sealer messages draw =
    elim (sealer.setup_of draw) [ None ↦ [] | Some made ↦ key_stanza made.0 ∷ sealed_stanzas (seal_at sealer.seal_of made.1) messages ]
