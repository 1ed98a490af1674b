-- The text of a mail as a sender writes it.
use Rattle.std.specs.Prelude.{◌≡◌, ℕ, List, ◌∷◌, ◌++◌, ◌||◌, Bool, not, map, filter, codes, Some, None}
use Rattle.std.specs.List.{flat_map, AllByRecursion}
use Rattle.std.specs.Str.{bytes_eq}
use Rattle.age_format.specs.Stanza.{Stanza, IsStanza, spelling}
use Rattle.age_send.specs.Grease.{IsGrease}
use Rattle.age_send.specs.Sending.{done}
use Rattle.hpke.specs.Schedule.{Context}
use Rattle.kem_mail.specs.Sealing.{Sealer, seal_at, sealed, unsealed, key_stanza, message_stanza}

-- one of the tags that a mail is read by
abbrev pub is_mail_tag : List ℕ → Bool
is_mail_tag tag = bytes_eq tag (codes "kem") || bytes_eq tag (codes "msg") || bytes_eq tag (codes "done")

-- the stanzas with such a tag, in order
abbrev pub mail_part : List Stanza → List Stanza
mail_part stanzas = filter (λ s. is_mail_tag s.tag) stanzas

-- the other stanzas, in order
abbrev pub other_part : List Stanza → List Stanza
other_part stanzas = filter (λ s. not (is_mail_tag s.tag)) stanzas

-- The text is the spellings of stanzas. Those of them tagged `kem`, `msg` or `done` are, in order, the
-- encapsulated key that the drawn bytes make, each message, sealed under its number from 0 on, and, last in
-- the text, `done`.
pub record SenderText (sealer : Sealer) (messages : List (List ℕ)) (draw text : List ℕ) : Type 0 where
  pub key : List ℕ
  pub context : Context
  pub setup : sealer.setup_of draw ≡ Some (key, context)
  pub all_sealed : unsealed (seal_at sealer.seal_of context) 0 messages ≡ None
  pub before : List Stanza
  pub whole : text ≡ flat_map spelling before ++ spelling done
  pub each : AllByRecursion IsStanza before
  pub order : mail_part before ≡ key_stanza key ∷ map message_stanza (sealed (seal_at sealer.seal_of context) 0 messages)

-- the same, where the other stanzas are grease
abbrev pub IsSenderText : Sealer → List (List ℕ) → List ℕ → List ℕ → Type 0
IsSenderText sealer messages draw text = (is : SenderText sealer messages draw text) × AllByRecursion IsGrease (other_part is.before)
