-- What stanzas among grease spell is a sender's text.
use Rattle.std.proofs.Common.{◌≡◌, ◌≢◌, ℕ, ◌+◌, true, false, List, [], ◌∷◌, ◌++◌, length, map, Option, Some, None, refl, sym, ap, subst, ◌∙◌, append_assoc, arith}
use Rattle.std.specs.Prelude.{Bool, not, codes}
use Rattle.std.specs.List.{flat_map, AllByRecursion}
use Rattle.std.specs.Str.{bytes_eq}
use Rattle.std.proofs.lemmas.List.{append-nil, length-append}
use Rattle.std.proofs.lemmas.List.Concat.{flat_map-append}
use Rattle.std.proofs.lemmas.List.Elements.{filter-append}
use Rattle.std.proofs.lemmas.Slice.Eq.{bytes_eq-Decides}
use Rattle.rand_core.specs.Stream.{Stream, fill_bytes}
use Rattle.age_format.specs.Stanza.{Stanza, IsStanza, spelling}
use Rattle.age_send.specs.Grease.{IsGrease}
use Rattle.age_send.specs.Sending.{AfterGrease, done, second_roll, sent_text}
use Rattle.hpke.specs.Schedule.{Context}
use Rattle.kem_mail.specs.Sealing.{Sealer, first_unsealed, key_stanza, mail_end, mail_stanzas, message_stanza, seal_at, sealed, sealed_stanzas, unsealed}
use Rattle.kem_mail.specs.SenderText.{IsSenderText, is_mail_tag, mail_part, other_part}
use Rattle.kem_mail.specs.Sent.{AllAfterGrease, mail_text, stanzas_text}

-- ---- grease has none of the tags of a mail

long_tag-as : (tag word : List ℕ) (b : Bool) → length word ≢ length tag → bytes_eq tag word ≡ b → b ≡ false
long_tag-as tag word true other e = absurd (other (sym (ap length ((bytes_eq-Decides tag word).0 e))))
long_tag-as tag word false other e = refl

long_tag : (tag word : List ℕ) → length word ≢ length tag → bytes_eq tag word ≡ false
long_tag tag word other = long_tag-as tag word (bytes_eq tag word) other refl

grease_tag : (front tag : List ℕ) → tag ≡ front ++ codes "-grease" → is_mail_tag tag ≡ false
grease_tag front tag is =
    let long : length tag ≡ length front + 7 = ap length is ∙ length-append front (codes "-grease") in
    rw (long_tag tag (codes "kem") (λ e. omega (arith, e, long)), long_tag tag (codes "msg") (λ e. omega (arith, e, long)), long_tag tag (codes "done") (λ e. omega (arith, e, long))) refl

grease_apart : (s : Stanza) → IsGrease s → is_mail_tag s.tag ≡ false
grease_apart s is = grease_tag is.0 s.tag is.1

-- ---- parts of stanzas

mail_part-hit : (s : Stanza) (ss : List Stanza) → is_mail_tag s.tag ≡ true → mail_part (s ∷ ss) ≡ s ∷ mail_part ss
mail_part-hit s ss e = rw e refl

mail_part-miss : (s : Stanza) (ss : List Stanza) → is_mail_tag s.tag ≡ false → mail_part (s ∷ ss) ≡ mail_part ss
mail_part-miss s ss e = rw e refl

other_part-hit : (s : Stanza) (ss : List Stanza) → is_mail_tag s.tag ≡ false → other_part (s ∷ ss) ≡ s ∷ other_part ss
other_part-hit s ss e = rw e refl

other_part-miss : (s : Stanza) (ss : List Stanza) → is_mail_tag s.tag ≡ true → other_part (s ∷ ss) ≡ other_part ss
other_part-miss s ss e = rw e refl

mail_part-grease : (ss : List Stanza) → AllByRecursion IsGrease ss → mail_part ss ≡ []
mail_part-grease [] all = refl
mail_part-grease (s ∷ ss) all = mail_part-miss s ss (grease_apart s all.0) ∙ mail_part-grease ss all.1

other_part-grease : (ss : List Stanza) → AllByRecursion IsGrease ss → other_part ss ≡ ss
other_part-grease [] all = refl
other_part-grease (s ∷ ss) all = other_part-hit s ss (grease_apart s all.0) ∙ ap (λ (t : List Stanza). s ∷ t) (other_part-grease ss all.1)

pub both_all : (P : Stanza → Type 0) (xs ys : List Stanza) → AllByRecursion P xs → AllByRecursion P ys → AllByRecursion P (xs ++ ys)
both_all P [] ys h k = k
both_all P (x ∷ xs) ys h k = (h.0, both_all P xs ys h.1 k)

-- ---- stanzas among grease

-- the stanzas before the last, of which these are the mail's and the others grease
record Among (xs : List Stanza) (text : List ℕ) : Type 0 where
  pub before : List Stanza
  pub whole : text ≡ flat_map spelling before ++ spelling done
  pub each : AllByRecursion IsStanza before
  pub order : mail_part before ≡ xs
  pub grease : AllByRecursion IsGrease (other_part before)

regroup : (a b c d : List ℕ) → (a ++ b) ++ (c ++ d) ≡ (a ++ (b ++ c)) ++ d
regroup a b c d = simp append_assoc

module _ (x : Stanza) (xs : List Stanza) (text rest : List ℕ) (hit : is_mail_tag x.tag ≡ true) (first : AfterGrease text x) (later : Among xs rest) where
  all_before : List Stanza
  all_before = first.grease ++ x ∷ later.before

  among_more : Among (x ∷ xs) (text ++ rest)
  among_more = record {
    before = first.grease ++ x ∷ later.before;
    whole = ap (λ (t : List ℕ). t ++ rest) first.whole ∙ (ap (λ (t : List ℕ). (flat_map spelling first.grease ++ spelling x) ++ t) later.whole
        ∙ (regroup (flat_map spelling first.grease) (spelling x) (flat_map spelling later.before) (spelling done)
        ∙ ap (λ (t : List ℕ). t ++ spelling done) (sym (flat_map-append spelling first.grease (x ∷ later.before)))));
    each = both_all IsStanza first.grease (x ∷ later.before) first.each (first.sent_is, later.each);
    order = filter-append (λ s. is_mail_tag s.tag) first.grease (x ∷ later.before)
        ∙ (ap (λ (t : List Stanza). t ++ mail_part (x ∷ later.before)) (mail_part-grease first.grease first.each_is_grease)
        ∙ (mail_part-hit x later.before hit ∙ ap (λ (t : List Stanza). x ∷ t) later.order));
    grease = subst (AllByRecursion IsGrease)
        (sym (filter-append (λ s. not (is_mail_tag s.tag)) first.grease (x ∷ later.before)
        ∙ (ap (λ (t : List Stanza). t ++ other_part (x ∷ later.before)) (other_part-grease first.grease first.each_is_grease)
        ∙ ap (λ (t : List Stanza). first.grease ++ t) (other_part-miss x later.before hit))))
        (both_all IsGrease first.grease (other_part later.before) first.each_is_grease later.grease);
  }

abbrev IsMailStanza : Stanza → Type 0
IsMailStanza s = is_mail_tag s.tag ≡ true

among : (xs : List Stanza) → AllByRecursion IsMailStanza xs → (stream : Stream) → AllAfterGrease (xs ++ done ∷ []) stream → Among xs (stanzas_text (xs ++ done ∷ []) stream)
unfolding stanzas_text AllAfterGrease
among [] all stream greased =
    let last = greased.0 in
    record {
      before = last.grease;
      whole = append-nil (sent_text done stream) ∙ last.whole;
      each = last.each;
      order = mail_part-grease last.grease last.each_is_grease;
      grease = subst (AllByRecursion IsGrease) (sym (other_part-grease last.grease last.each_is_grease)) last.each_is_grease;
    }
among (x ∷ xs) all stream greased =
    let next : Stream = (second_roll stream).1 in
    among_more x xs (sent_text x stream) (stanzas_text (xs ++ done ∷ []) next) all.0 greased.0 (among xs all.1 next greased.1)

message_stanzas-mail : (bodies : List (List ℕ)) → AllByRecursion IsMailStanza (map message_stanza bodies)
message_stanzas-mail [] = tt
message_stanzas-mail (body ∷ bodies) = (refl, message_stanzas-mail bodies)

-- ---- the mail

-- the context and the key that the drawn bytes make
record Made (sealer : Sealer) (messages : List (List ℕ)) (draw : List ℕ) : Type 0 where
  pub key : List ℕ
  pub context : Context
  pub setup : sealer.setup_of draw ≡ Some (key, context)
  pub stanzas : mail_stanzas sealer messages draw ≡ key_stanza key ∷ sealed_stanzas (seal_at sealer.seal_of context) messages
  pub number : first_unsealed sealer messages draw ≡ unsealed (seal_at sealer.seal_of context) 0 messages

module _ (sealer : Sealer) (messages : List (List ℕ)) (draw : List ℕ) where
  pub stanzas_by : (key : List ℕ) (context : Context) → sealer.setup_of draw ≡ Some (key, context)
      → mail_stanzas sealer messages draw ≡ key_stanza key ∷ sealed_stanzas (seal_at sealer.seal_of context) messages
  unfolding mail_stanzas
  stanzas_by key context e = rw (e, mail_stanzas) refl

  pub number_by : (key : List ℕ) (context : Context) → sealer.setup_of draw ≡ Some (key, context) → first_unsealed sealer messages draw ≡ unsealed (seal_at sealer.seal_of context) 0 messages
  unfolding first_unsealed
  number_by key context e = rw (e, first_unsealed) refl

  made-as : (o : Option (List ℕ × Context)) → sealer.setup_of draw ≡ o → o ≢ None → Made sealer messages draw
  made-as None e there = absurd (there refl)
  made-as (Some made) e there = record { key = made.0; context = made.1; setup = e; stanzas = stanzas_by made.0 made.1 e; number = number_by made.0 made.1 e }

  made : sealer.setup_of draw ≢ None → Made sealer messages draw
  made there = made-as (sealer.setup_of draw) refl there

-- a mail that was sent to its end is a sender's text
pub is_sender_text : (sealer : Sealer) (messages : List (List ℕ)) (stream : Stream) → sealer.setup_of (fill_bytes 32 stream).0 ≢ None → first_unsealed sealer messages (fill_bytes 32 stream).0 ≡ None
    → AllAfterGrease (mail_stanzas sealer messages (fill_bytes 32 stream).0) (fill_bytes 32 stream).1 → IsSenderText sealer messages (fill_bytes 32 stream).0 (mail_text sealer messages stream)
unfolding sealed_stanzas
is_sender_text sealer messages stream there all greased =
    let draw : List ℕ = (fill_bytes 32 stream).0 in
    let behind : Stream = (fill_bytes 32 stream).1 in
    let by = made sealer messages draw there in
    let meaning : ℕ → List ℕ → Option (List ℕ) = seal_at sealer.seal_of by.context in
    let mine : List Stanza = key_stanza by.key ∷ map message_stanza (sealed meaning 0 messages) in
    let every : unsealed meaning 0 messages ≡ None = sym by.number ∙ all in
    let same : mail_stanzas sealer messages draw ≡ mine ++ done ∷ [] =
    by.stanzas ∙ ap (λ (o : Option ℕ). key_stanza by.key ∷ (map message_stanza (sealed meaning 0 messages) ++ mail_end o)) every in
    let it = among mine (refl, message_stanzas-mail (sealed meaning 0 messages)) behind (subst (λ (t : List Stanza). AllAfterGrease t behind) same greased) in (
      record {
        key = by.key;
        context = by.context;
        setup = by.setup;
        all_sealed = every;
        before = it.before;
        whole = ap (λ (t : List Stanza). stanzas_text t behind) same ∙ it.whole;
        each = it.each;
        order = it.order;
      },
      it.grease,
    )
