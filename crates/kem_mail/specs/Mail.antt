-- What a mail opens to: its messages, or the first cause that applies of why it doesn't open.
use Rattle.std.specs.Prelude.{◌≡◌, ◌≢◌, ℕ, ◌+◌, ◌==◌, if◌then◌else◌, List, [], ◌∷◌, length, map, filter, codes, Option, Some, None, Result, Ok, Err}
use Rattle.std.specs.Str.{bytes_eq}
use Rattle.kem_hash.specs.Family.{Family}
use Rattle.ml_kem.specs.Parameters.{Parameters}
use Rattle.ml_kem.specs.Keys.{key_of}
use Rattle.age_format.specs.Stanza.{Stanza}
use Rattle.age_format.specs.Reading.{Reading, Reads, Before_done, Invalid_data, Unexpected_eof, Too_much}
use Rattle.hpke.specs.Schedule.{Suite, KdfAlgorithm, AeadAlgorithm, Context, mode_base, receiver_setup, suite_of}
use Rattle.hpke.specs.Nonce.{nonce_of}
use Rattle.hpke.specs.Lattice.{lattice_kem_id, lattice_decap}
use Rattle.kem_mail.specs.declared.error.MailError.{MailError}
use Rattle.kem_mail.specs.declared.error.MailError.TheVariants.{NoMemory, ReadFault, XofExhausted, InvalidData, UnexpectedEof, TooMuch, NotOneKem, IncorrectInputLength, OpenError}

-- the messages of a mail, or why it has none
abbrev pub Verdict : Type 0
Verdict = Result (List (List ℕ)) MailError

-- an answer that says what the mail holds: neither want of memory nor a fault of the source
abbrev pub IsVerdict : Verdict → Type 0
IsVerdict verdict = (verdict ≢ Err NoMemory) × (verdict ≢ Err ReadFault)

-- what a sealed text opens to under a key, a nonce and associated data, or none (RFC 9180, section 4)
abbrev pub OpenMeaning : Type 0
OpenMeaning = List ℕ → List ℕ → List ℕ → List ℕ → Option (List ℕ)

-- the bodies of the stanzas with this tag, in order
abbrev pub bodies : List ℕ → List Stanza → List (List ℕ)
bodies tag stanzas = map (λ s. s.body) (filter (λ s. bytes_eq s.tag tag) stanzas)

-- what a sealed message opens to under a number of a context, without associated data (RFC 9180,
-- section 5.2)
abbrev pub open_at : OpenMeaning → Context → ℕ → List ℕ → Option (List ℕ)
open_at open_of context number sealed = open_of context.key (nonce_of context.base_nonce number) [] sealed

-- a message before the others, where they are there
abbrev pub with_first : List ℕ → Verdict → Verdict
with_first text (Ok texts) = Ok (text ∷ texts)
with_first text (Err error) = Err error

-- the messages, opened in order from this number on, or the number of the first that doesn't open
abbrev pub opened : (ℕ → List ℕ → Option (List ℕ)) → ℕ → List (List ℕ) → Verdict
opened meaning number [] = Ok []
opened meaning number (first ∷ others) =
    elim (meaning number first) [ None ↦ Err (OpenError number) | Some text ↦ with_first text (opened meaning (number + 1) others) ]

-- how a mail is opened: the length of an encapsulated key, the context that one brings, and what a
-- sealed text opens to
pub record Opener : Type 0 where
  pub key_size : ℕ
  pub context_of : List ℕ → Option Context
  pub open_of : OpenMeaning

-- how a suite opens a mail in mode Base with an info: by the length of an encapsulated key, the secret
-- that a private key finds in one, and what a sealed text opens to
abbrev pub opener_of : Suite → List ℕ → ℕ → (List ℕ → Option (List ℕ)) → OpenMeaning → Opener
opener_of suite info key_size decap open_of = record {
  key_size = key_size;
  context_of = λ key. receiver_setup suite mode_base info (decap key);
  open_of = open_of;
}

-- what the sealed messages come to under the context of the encapsulated key; a KEM that keeps its laws
-- finds a secret in every encapsulated key, and so there is a context
abbrev pub opened_with : Opener → Option Context → List (List ℕ) → Verdict
opened_with opener None sealed = Err XofExhausted
opened_with opener (Some context) sealed = opened (open_at opener.open_of context) 0 sealed

-- what these encapsulated keys and these sealed messages come to: there is exactly one encapsulated key,
-- of this size, and under its context all sealed messages open
abbrev pub judged_bodies : Opener → List (List ℕ) → List (List ℕ) → Verdict
judged_bodies opener [] sealed = Err (NotOneKem 0)
judged_bodies opener (key ∷ []) sealed =
    if length key == opener.key_size then opened_with opener (opener.context_of key) sealed
    else Err (IncorrectInputLength opener.key_size (length key))
judged_bodies opener (key ∷ other ∷ keys) sealed = Err (NotOneKem (length (key ∷ other ∷ keys)))

-- what a reading comes to
abbrev pub judged : Opener → Reading → Verdict
judged opener (Before_done stanzas) = judged_bodies opener (bodies (codes "kem") stanzas) (bodies (codes "msg") stanzas)
judged opener Invalid_data = Err InvalidData
judged opener Unexpected_eof = Err UnexpectedEof
judged opener Too_much = Err TooMuch

-- The mail that the first `budget` bytes of a text hold comes to this. Stanzas of other tags, arguments,
-- the order of `kem` and `msg`, and what stands behind the first `done` are free.
pub record Opens (opener : Opener) (text : List ℕ) (budget : ℕ) (verdict : Verdict) : Type 0 where
  pub reading : Reading
  pub reads : Reads text budget reading
  pub verdict_is : verdict ≡ judged opener reading

-- Two mails, each within its budget, hold the same bodies of `kem` and of `msg` before their first `done`.
pub record SameBodies (text : List ℕ) (budget : ℕ) (other : List ℕ) (limit : ℕ) : Type 0 where
  pub stanzas : List Stanza
  pub others : List Stanza
  pub reads : Reads text budget (Before_done stanzas)
  pub reads_other : Reads other limit (Before_done others)
  pub same_keys : bodies (codes "kem") stanzas ≡ bodies (codes "kem") others
  pub same_sealed : bodies (codes "msg") stanzas ≡ bodies (codes "msg") others

-- how the holder of a lattice key opens a mail, by the key's seed
abbrev pub lattice_opener : Parameters → Family → KdfAlgorithm → AeadAlgorithm → OpenMeaning → List ℕ → List ℕ → Opener
lattice_opener set family kdf aead open_of seed info =
    opener_of (suite_of (lattice_kem_id set) kdf aead) info set.ct_size (lattice_decap set family seed None) open_of

-- the same mail for the holder of a lattice key: where the seed gives no key, that comes before all else
pub record OpensByKey (set : Parameters) (family : Family) (kdf : KdfAlgorithm) (aead : AeadAlgorithm) (open_of : OpenMeaning) (seed info text : List ℕ) (budget : ℕ) (verdict : Verdict) : Type 0 where
  pub without_key : key_of set family seed ≡ None → verdict ≡ Err XofExhausted
  pub with_key : (key : _) → key_of set family seed ≡ Some key → Opens (lattice_opener set family kdf aead open_of seed info) text budget verdict
