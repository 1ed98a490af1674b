-- What a sender wrote opens to its messages.
use Rattle.std.proofs.Common.{◌≡◌, ◌≢◌, ℕ, ◌+◌, ◌-◌, ◌≤◌, true, false, List, [], ◌∷◌, ◌++◌, length, take, map, Option, Some, None, refl, sym, ap, subst, ◌∙◌, ◌↔◌, arith, append_assoc}
use Rattle.std.specs.Prelude.{Bool, ◌||◌, codes, Ok}
use Rattle.std.specs.List.{flat_map}
use Rattle.std.specs.Option.{option_and_then, option_map}
use Rattle.std.specs.Str.{bytes_eq}
use Rattle.std.proofs.lemmas.Option.{none-some, same_Some}
use Rattle.std.proofs.Math.Seq.{take-append-add}
use Rattle.age_format.specs.Stanza.{Stanza, IsStanza, spelling}
use Rattle.age_format.specs.Reading.{Before_done, NoneDone, StandsBeforeDone}
use Rattle.age_send.specs.Sending.{done}
use Rattle.kem_hash.specs.Family.{Family}
use Rattle.ml_kem.specs.Encapsulation.{decaps, encaps}
use Rattle.ml_kem.specs.Keys.{Key, key_of}
use Rattle.ml_kem.specs.Parameters.{Parameters}
use Rattle.hpke.specs.Lattice.{lattice_decap, lattice_encap, lattice_kem_id}
use Rattle.hpke.specs.Nonce.{nonce_of}
use Rattle.hpke.specs.Schedule.{Suite, KdfAlgorithm, AeadAlgorithm, Context, mode_base, receiver_setup, sender_setup, schedule, suite_of}
use Rattle.kem_mail.specs.Mail.{Opener, OpenMeaning, Opens, OpensByKey, bodies, judged_bodies, open_at, opened, opener_of, with_first}
use Rattle.kem_mail.specs.Sealing.{SealMeaning, Sealer, lattice_sealer, sealer_of, seal_at, sealed, unsealed, key_stanza, message_stanza}
use Rattle.kem_mail.specs.SenderText.{SenderText, is_mail_tag, mail_part}
use Rattle.kem_mail.proofs.Verdicts.{judged_one}

-- ---- the bodies of a tag

module _ (tag : List ℕ) (of_mail : (t : List ℕ) → bytes_eq t tag ≡ true → is_mail_tag t ≡ true) where
  keep-one : (s : Stanza) (ss : List Stanza) (hit mail : Bool) → bytes_eq s.tag tag ≡ hit → is_mail_tag s.tag ≡ mail → bodies tag (mail_part ss) ≡ bodies tag ss
      → bodies tag (mail_part (s ∷ ss)) ≡ bodies tag (s ∷ ss)
  keep-one s ss true true h m e = rw (m, h) (ap (λ (t : List (List ℕ)). s.body ∷ t) e)
  keep-one s ss true false h m e = absurd (let t = of_mail s.tag h in cc)
  keep-one s ss false true h m e = rw (m, h) e
  keep-one s ss false false h m e = rw (m, h) e

  pub bodies-mail_part : (ss : List Stanza) → bodies tag (mail_part ss) ≡ bodies tag ss
  bodies-mail_part [] = refl
  bodies-mail_part (s ∷ ss) = keep-one s ss (bytes_eq s.tag tag) (is_mail_tag s.tag) refl refl (bodies-mail_part ss)

or_left : (a b c : Bool) → a ≡ true → (a || b || c) ≡ true
or_left a b c h = rw h refl

or_middle : (a b c : Bool) → b ≡ true → (a || b || c) ≡ true
or_middle true b c h = refl
or_middle false b c h = rw h refl

or_right : (a b c : Bool) → c ≡ true → (a || b || c) ≡ true
or_right true b c h = refl
or_right false true c h = refl
or_right false false c h = h

kem_bodies : (ss : List Stanza) → bodies (codes "kem") (mail_part ss) ≡ bodies (codes "kem") ss
kem_bodies = bodies-mail_part (codes "kem") (λ t. or_left (bytes_eq t (codes "kem")) (bytes_eq t (codes "msg")) (bytes_eq t (codes "done")))

message_bodies : (ss : List Stanza) → bodies (codes "msg") (mail_part ss) ≡ bodies (codes "msg") ss
message_bodies = bodies-mail_part (codes "msg") (λ t. or_middle (bytes_eq t (codes "kem")) (bytes_eq t (codes "msg")) (bytes_eq t (codes "done")))

no_key_among : (xs : List (List ℕ)) → bodies (codes "kem") (map message_stanza xs) ≡ []
no_key_among [] = refl
no_key_among (x ∷ xs) = no_key_among xs

messages_among : (xs : List (List ℕ)) → bodies (codes "msg") (map message_stanza xs) ≡ xs
messages_among [] = refl
messages_among (x ∷ xs) = ap (λ (t : List (List ℕ)). x ∷ t) (messages_among xs)

-- ---- no stanza ends the mail before its end

abbrev NotDone : Stanza → Type 0
NotDone s = s.tag ≢ codes "done"

done_is_true : (t : List ℕ) → t ≡ codes "done" → is_mail_tag t ≡ true
done_is_true t e = rw e refl

none_done-one : (s : Stanza) (ss : List Stanza) (mail : Bool) → is_mail_tag s.tag ≡ mail → (NoneDone (mail_part ss) → NoneDone ss) → NoneDone (mail_part (s ∷ ss)) → NoneDone (s ∷ ss)
none_done-one s ss true m later h = let all : NoneDone (s ∷ mail_part ss) = rw m at h in (all.0, later all.1)
none_done-one s ss false m later h = let all : NoneDone (mail_part ss) = rw m at h in ((λ e. let t = done_is_true s.tag e in cc), later all)

none_done-from : (ss : List Stanza) → NoneDone (mail_part ss) → NoneDone ss
none_done-from [] h = tt
none_done-from (s ∷ ss) h = none_done-one s ss (is_mail_tag s.tag) refl (none_done-from ss) h

messages_not_done : (xs : List (List ℕ)) → NoneDone (map message_stanza xs)
messages_not_done [] = tt
messages_not_done (x ∷ xs) = ((λ e. absurd cc), messages_not_done xs)

due_not_done : (key : List ℕ) (xs : List (List ℕ)) → NoneDone (key_stanza key ∷ map message_stanza xs)
due_not_done key xs = ((λ e. absurd cc), messages_not_done xs)

-- ---- what was sealed opens

module _ (seal_of : SealMeaning) (open_of : OpenMeaning) (context : Context)
    (law : (key nonce aad text body : List ℕ) → (open_of key nonce aad body ≡ Some text) ↔ (seal_of key nonce aad text ≡ Some body)) where
  opens-one : (number : ℕ) (text : List ℕ) (texts : List (List ℕ)) (o : Option (List ℕ)) → seal_at seal_of context number text ≡ o
      → (unsealed (seal_at seal_of context) (number + 1) texts ≡ None → opened (open_at open_of context) (number + 1) (sealed (seal_at seal_of context) (number + 1) texts) ≡ Ok texts)
      → unsealed (seal_at seal_of context) number (text ∷ texts) ≡ None
      → opened (open_at open_of context) number (sealed (seal_at seal_of context) number (text ∷ texts)) ≡ Ok (text ∷ texts)
  opens-one number text texts None e later all = absurd (let none : Some number ≡ None = rw (e, unsealed) at all in cc)
  opens-one number text texts (Some body) e later all =
      let left : unsealed (seal_at seal_of context) (number + 1) texts ≡ None = rw (e, unsealed) at all in
      let opens : open_at open_of context number body ≡ Some text = (law context.key (nonce_of context.base_nonce number) [] text body).1 e in
      rw (e, sealed) (rw (opens, opened) (ap (with_first text) (later left)))

  pub opens_sealed : (number : ℕ) (texts : List (List ℕ)) → unsealed (seal_at seal_of context) number texts ≡ None
      → opened (open_at open_of context) number (sealed (seal_at seal_of context) number texts) ≡ Ok texts
  opens_sealed number [] all = refl
  opens_sealed number (text ∷ texts) all = opens-one number text texts (seal_at seal_of context number text) refl (opens_sealed (number + 1) texts) all

-- ---- the mail

-- what the first bytes of a text that begins with this one are
front_and : (text rest : List ℕ) (budget : ℕ) → length text ≤ budget → take budget (text ++ rest) ≡ text ++ take (budget - length text) rest
front_and text rest budget le =
    let same : budget ≡ length text + (budget - length text) = omega arith in
    ap (λ (n : ℕ). take n (text ++ rest)) same ∙ take-append-add text rest (budget - length text)

done_is : IsStanza done
done_is = record { tag = ((λ e. absurd cc), ((omega arith, omega arith), ((omega arith, omega arith), ((omega arith, omega arith), ((omega arith, omega arith), tt))))); args = tt; body = λ i. omega arith }

module _ (sealer : Sealer) (messages : List (List ℕ)) (draw text rest : List ℕ) (budget : ℕ) (is : SenderText sealer messages draw text) (fits : length text ≤ budget) where
  sender_meaning : ℕ → List ℕ → Option (List ℕ)
  sender_meaning = seal_at sealer.seal_of is.context

  due : List Stanza
  due = key_stanza is.key ∷ map message_stanza (sealed (seal_at sealer.seal_of is.context) 0 messages)

  before_not_done : NoneDone is.before
  before_not_done =
      let all : NoneDone (mail_part is.before) = subst NoneDone (sym is.order) (due_not_done is.key (sealed (seal_at sealer.seal_of is.context) 0 messages)) in
      none_done-from is.before all

  stands : StandsBeforeDone (take budget (text ++ rest)) is.before
  stands =
      let more : List ℕ = take (budget - length text) rest in
      record {
        last = done;
        rest = more;
        whole = front_and text rest budget fits ∙ (ap (λ (t : List ℕ). t ++ more) is.whole ∙ append_assoc (flat_map spelling is.before) (spelling done) more);
        each = is.each;
        none_done = before_not_done;
        last_is_stanza = done_is;
        last_is_done = refl;
      }

  one_key : bodies (codes "kem") is.before ≡ is.key ∷ []
  one_key =
      sym (kem_bodies is.before) ∙ (ap (bodies (codes "kem")) is.order
      ∙ ap (λ (t : List (List ℕ)). is.key ∷ t) (no_key_among (sealed (seal_at sealer.seal_of is.context) 0 messages)))

  all_messages : bodies (codes "msg") is.before ≡ sealed (seal_at sealer.seal_of is.context) 0 messages
  all_messages =
      sym (message_bodies is.before) ∙ (ap (bodies (codes "msg")) is.order
      ∙ messages_among (sealed (seal_at sealer.seal_of is.context) 0 messages))

  -- the mail opens where its encapsulated key has this size and brings the sender's context
  pub opens_to_messages : (opener : Opener) → ((key nonce aad text body : List ℕ) → (opener.open_of key nonce aad body ≡ Some text) ↔ (sealer.seal_of key nonce aad text ≡ Some body))
      → length is.key ≡ opener.key_size → opener.context_of is.key ≡ Some is.context → Opens opener (text ++ rest) budget (Ok messages)
  opens_to_messages opener law size has =
      let judges : judged_bodies opener (bodies (codes "kem") is.before) (bodies (codes "msg") is.before) ≡ Ok messages =
      judged_one opener (bodies (codes "kem") is.before) (bodies (codes "msg") is.before) is.key is.context one_key size has
      ∙ (ap (opened (open_at opener.open_of is.context) 0) all_messages
      ∙ opens_sealed sealer.seal_of opener.open_of is.context law 0 messages is.all_sealed) in
      record { reading = Before_done is.before; reads = stands; verdict_is = sym judges }

-- ---- the same suite on both sides

module _ (suite : Suite) (info : List ℕ) (shared key : List ℕ) where
  sent_context : Context
  sent_context = schedule suite 0 shared info [] []

  same_key : (made : Option (List ℕ × List ℕ)) (k : List ℕ) (context : Context) → made ≡ Some (shared, key) → sender_setup suite mode_base info made ≡ Some (k, context)
      → (k ≡ key) × (receiver_setup suite mode_base info (Some shared) ≡ Some context)
  same_key made k context is setup =
      let both : (key, schedule suite 0 shared info [] []) ≡ (k, context) = same_Some _ _ (rw is at setup) in
      (sym (ap (λ (p : List ℕ × Context). p.0) both), ap (λ (p : List ℕ × Context). Some p.1) both)

-- a text of a sender opens where its encapsulated key has the right length and its secret is found
pub sender_text_opens : (suite : Suite) (info : List ℕ) (size : ℕ) (encap : List ℕ → Option (List ℕ × List ℕ)) (decap : List ℕ → Option (List ℕ)) (seal_of : SealMeaning) (open_of : OpenMeaning)
    → ((key nonce aad text body : List ℕ) → (open_of key nonce aad body ≡ Some text) ↔ (seal_of key nonce aad text ≡ Some body))
    → (messages : List (List ℕ)) (draw shared key text rest : List ℕ) (budget : ℕ) → encap draw ≡ Some (shared, key) → decap key ≡ Some shared → length key ≡ size
    → SenderText (sealer_of suite info encap seal_of) messages draw text → length text ≤ budget
    → Opens (opener_of suite info size decap open_of) (text ++ rest) budget (Ok messages)
sender_text_opens suite info size encap decap seal_of open_of law messages draw shared key text rest budget made found long is fits =
    let same = same_key suite info shared key (encap draw) is.key is.context made is.setup in
    opens_to_messages (sealer_of suite info encap seal_of) messages draw text rest budget is fits (opener_of suite info size decap open_of) law
    (ap length same.0 ∙ long)
    (ap (λ (k : List ℕ). receiver_setup suite mode_base info (decap k)) same.0 ∙ (ap (receiver_setup suite mode_base info) found ∙ same.1))

-- ---- a lattice key

found_by_key : (set : Parameters) (family : Family) (seed : List ℕ) (o : Option Key) (key : Key) (c shared : List ℕ) → o ≡ Some key → decaps set family key.s key.ek key.z c ≡ Some shared
    → option_and_then (λ (k : Key). decaps set family k.s k.ek k.z c) o ≡ Some shared
found_by_key set family seed o key c shared has found = ap (option_and_then (λ (k : Key). decaps set family k.s k.ek k.z c)) has ∙ found

pub sender_text_opens_by_key : (set : Parameters) (family : Family) (kdf : KdfAlgorithm) (aead : AeadAlgorithm) (seal_of : SealMeaning) (open_of : OpenMeaning)
    → ((key nonce aad text body : List ℕ) → (open_of key nonce aad body ≡ Some text) ↔ (seal_of key nonce aad text ≡ Some body))
    → (seed info : List ℕ) (key : Key) (messages : List (List ℕ)) (m c shared text rest : List ℕ) (budget : ℕ) → key_of set family seed ≡ Some key
    → encaps set family key.ek m ≡ Some (c, shared) → decaps set family key.s key.ek key.z c ≡ Some shared → length c ≡ set.ct_size
    → SenderText (lattice_sealer set family kdf aead seal_of key.ek info) messages m text → length text ≤ budget
    → OpensByKey set family kdf aead open_of seed info (text ++ rest) budget (Ok messages)
sender_text_opens_by_key set family kdf aead seal_of open_of law seed info key messages m c shared text rest budget has made found long is fits =
    let opens = sender_text_opens (suite_of (lattice_kem_id set) kdf aead) info set.ct_size (lattice_encap set family key.ek None) (lattice_decap set family seed None) seal_of open_of law
    messages m shared c text rest budget
    (ap (option_map {U = List ℕ × List ℕ} (λ (made : List ℕ × List ℕ). (made.1, made.0))) made)
    (found_by_key set family seed (key_of set family seed) key c shared has found) long is fits in
    record {
      without_key = λ none. absurd (none-some key (sym none ∙ has));
      with_key = λ other _. opens;
    }
