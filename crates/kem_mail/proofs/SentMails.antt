-- The messages of a mail, and its stanzas, that are sealed and sent in turn.
use Rattle.std.proofs.Common.{◌≡◌, ◌≢◌, ℕ, zero, suc, ◌+◌, ◌<◌, ◌≤◌, List, [], ◌∷◌, ◌++◌, length, take, drop, get_or, map, Option, Some, None, Bor, refl, sym, ap, subst, ◌∙◌, inr, append_assoc, take-append-drop, length-take-le, arith}
use Rattle.std.specs.Prelude.{IsSome, OnOk, Result, Ok, Err, slice_get}
use Rattle.std.specs.List.{AllByRecursion}
use Rattle.std.specs.Option.{option_copied, option_map}
use Rattle.std.proofs.lemmas.List.{map-append, take_more, drop_more}
use Rattle.std.proofs.lemmas.Option.{none-some, same_Some}
use Rattle.kem_hash.specs.Family.{Family}
use Rattle.ml_kem.specs.Encapsulation.{encaps}
use Rattle.ml_kem.specs.Keys.{rho_part}
use Rattle.ml_kem.specs.Matrix.{matrix}
use Rattle.ml_kem.specs.Parameters.{Parameters}
use Rattle.ml_kem.proofs.Secrets.{encaps-none-from}
use Rattle.rand_core.specs.Stream.{Stream, fill_bytes}
use Rattle.age_format.specs.Stanza.{Stanza}
use Rattle.age_send.specs.Sending.{done}
use Rattle.hpke.specs.Answers.{Answers}
use Rattle.hpke.specs.Messages.{NumberedAnswers}
use Rattle.hpke.specs.Nonce.{nonce_of}
use Rattle.hpke.specs.Lattice.{lattice_encap}
use Rattle.hpke.specs.Schedule.{Context}
use Rattle.hpke.specs.declared.error.HpkeError.{HpkeError}
use Rattle.hpke.specs.declared.error.HpkeError.TheVariants.{SealError as HpkeSealError}
use Rattle.kem_mail.specs.Sealing.{SealMeaning, Sealer, first_unsealed, key_stanza, mail_end, mail_stanzas, message_stanza, seal_at, sealed, sealed_stanzas, unsealed}
use Rattle.kem_mail.specs.SenderText.{IsSenderText}
use Rattle.kem_mail.specs.Sent.{RanOutAt, SealsMail, SentAll, Untouched, mail_text}
use Rattle.kem_mail.specs.private.Sends.{Sends, SentBefore}
use Rattle.kem_mail.specs.declared.error.SealMailError.{SealMailError}
use Rattle.kem_mail.specs.declared.error.SealMailError.TheVariants.{NoMemory, XofExhausted, SealError, WriteFault}
use Rattle.kem_mail.proofs.Greased.{is_sender_text, number_by, stanzas_by}
use Rattle.kem_mail.proofs.Sealed.{follows, one_first, sealed-none, sealed-some, unsealed-each, unsealed-none, unsealed-some}
use Rattle.kem_mail.proofs.Sends.{ran_out_nothing, refused_front, sends_then, sent_nothing, sent_then}
use Rattle.age_format.proofs.Writing.{wrote_nothing}

-- ---- a message of a list

none_got : (xs : List (List ℕ)) (i : ℕ) → slice_get xs i ≡ None → length xs ≤ i
none_got [] i e = omega arith
none_got (x ∷ xs) zero e = absurd (none-some x (sym e))
none_got (x ∷ xs) (suc i) e = let le = none_got xs i e in omega (arith, le)

pub some_got : (o : Option (Bor (List ℕ))) (xs : List (List ℕ)) (i : ℕ) → option_copied o ≡ slice_get xs i → i < length xs → IsSome o
some_got None xs i e lt = absurd (let le = none_got xs i (sym e) in omega (arith, le))
some_got (Some m) xs i e lt = refl

got_at : (xs : List (List ℕ)) (i : ℕ) (m : List ℕ) → slice_get xs i ≡ Some m → (i < length xs) × (get_or xs i m ≡ m)
got_at [] i m e = absurd (none-some m e)
got_at (x ∷ xs) zero m e = (omega arith, same_Some x m e)
got_at (x ∷ xs) (suc i) m e = let r = got_at xs i m e in (let lt = r.0 in omega (arith, lt), r.1)

-- the messages before this one, and those behind it
pub record Place (xs : List (List ℕ)) (i : ℕ) (m : List ℕ) : Type 0 where
  pub long : length (take i xs) ≡ i
  pub more : take (i + 1) xs ≡ take i xs ++ m ∷ []
  pub whole : xs ≡ take i xs ++ m ∷ drop (i + 1) xs

placed : (xs : List (List ℕ)) (i : ℕ) (m : List ℕ) → slice_get xs i ≡ Some m → Place xs i m
placed xs i m e =
    let at = got_at xs i m e in
    let lt : i < length xs = at.0 in
    record {
      long = length-take-le i xs (omega (arith, lt));
      more = take_more xs i m lt ∙ ap (λ (y : List ℕ). take i xs ++ y ∷ []) at.1;
      whole = sym (take-append-drop i xs) ∙ ap (λ (t : List (List ℕ)). take i xs ++ t) (drop_more xs i m lt ∙ ap (λ (y : List ℕ). y ∷ drop (i + 1) xs) at.1);
    }

pub placed_got : (o : Option (Bor (List ℕ))) (r : Bor (List ℕ)) (xs : List (List ℕ)) (i : ℕ) → option_copied o ≡ slice_get xs i → o ≡ Some r → Place xs i r.now
placed_got o r xs i e is = placed xs i r.now (sym e ∙ ap option_copied is)

-- ---- what a context answers

module _ (seal_of : SealMeaning) (context : Context) (number : ℕ) (text : List ℕ) {X : Type 0} (view : X → List ℕ) (result : Result X HpkeError) (at : context.next ≡ Some number)
    (a : NumberedAnswers view HpkeSealError result context.next (λ n. seal_of context.key (nonce_of context.base_nonce n) [] text)) where
  answers : Answers view HpkeSealError result (seal_at seal_of context number text)
  answers = subst (λ (o : Option ℕ). NumberedAnswers view HpkeSealError result o (λ n. seal_of context.key (nonce_of context.base_nonce n) [] text)) at a

  pub seals : (x : X) → result ≡ Ok x → seal_at seal_of context number text ≡ Some (view x)
  seals x is = subst (λ (r : Result X HpkeError). Answers view HpkeSealError r (seal_at seal_of context number text)) is answers

  seals_none-as : (o : Option (List ℕ)) → result ≡ Err HpkeSealError → Answers view HpkeSealError result o → o ≡ None
  seals_none-as None is k = refl
  seals_none-as (Some y) is k = absurd (let e = subst (λ (r : Result X HpkeError). Answers view HpkeSealError r (Some y)) is k in cc e)

  pub seals_none : result ≡ Err HpkeSealError → seal_at seal_of context number text ≡ None
  seals_none is = seals_none-as (seal_at seal_of context number text) is answers

module _ {W : Type 0} (got : W → Option (List ℕ)) (faults : W → ℕ) (plan : W → List ℕ) (meaning : ℕ → List ℕ → Option (List ℕ)) where
  -- ---- one message

  abbrev pub stanzas_from : ℕ → List (List ℕ) → List Stanza
  stanzas_from n xs = map message_stanza (sealed meaning n xs)

  pub message_sent : {X : Type 0} (a b : W) (n : ℕ) (x body : List ℕ) (stream rest : Stream) (result : Result X SealMailError) → meaning n x ≡ Some body
      → Sends got faults plan a b (message_stanza body ∷ []) stream rest None result
      → Sends got faults plan a b (map message_stanza (sealed meaning n (x ∷ []))) stream rest (unsealed meaning n (x ∷ [])) result
  message_sent a b n x body stream rest result e k =
      let P : List (List ℕ) → Option ℕ → Type 0 = λ bodies number. Sends got faults plan a b (map message_stanza bodies) stream rest number result in
      subst (λ (bodies : List (List ℕ)). P bodies (unsealed meaning n (x ∷ []))) (sym (sealed-some meaning n x body [] e))
      (subst (λ (number : Option ℕ). P (body ∷ []) number) (sym (unsealed-some meaning n x body [] e)) k)

  pub message_unsealed : (a : W) (n : ℕ) (x : List ℕ) (stream : Stream) → meaning n x ≡ None
      → SentBefore got faults plan a a (map message_stanza (sealed meaning n (x ∷ []))) stream stream (unsealed meaning n (x ∷ [])) (Some n)
  message_unsealed a n x stream e = record {
    ends = unsealed-none meaning n x [] e;
    sent = subst (λ (bodies : List (List ℕ)). SentAll got faults plan a a (map message_stanza bodies) stream stream) (sym (sealed-none meaning n x [] e)) (sent_nothing got faults plan a stream);
  }

  -- ---- messages in turn

  module _ (a b c : W) (first second rest : Stream) (xs : List (List ℕ)) (n : ℕ) (x : List ℕ) (long : length xs ≡ n)
      (all : unsealed meaning 0 xs ≡ None) (h : SentAll got faults plan a b (map message_stanza (sealed meaning 0 xs)) first second) where
    same_number : 0 + length xs ≡ n
    same_number = omega (arith, long)

    bodies_both : (ys : List (List ℕ)) → map message_stanza (sealed meaning 0 (xs ++ ys)) ≡ map message_stanza (sealed meaning 0 xs) ++ map message_stanza (sealed meaning n ys)
    bodies_both ys =
        ap (map message_stanza) ((follows meaning 0 xs ys all).bodies ∙ ap (λ (k : ℕ). sealed meaning 0 xs ++ sealed meaning k ys) same_number)
        ∙ map-append message_stanza (sealed meaning 0 xs) (sealed meaning n ys)

    number_both : (ys : List (List ℕ)) → unsealed meaning 0 (xs ++ ys) ≡ unsealed meaning n ys
    number_both ys = (follows meaning 0 xs ys all).number ∙ ap (λ (k : ℕ). unsealed meaning k ys) same_number

    pub more_sent : SentBefore got faults plan b c (map message_stanza (sealed meaning n (x ∷ []))) second rest (unsealed meaning n (x ∷ [])) None
        → SentAll got faults plan a c (map message_stanza (sealed meaning 0 (xs ++ x ∷ []))) first rest
    more_sent k = subst (λ (t : List Stanza). SentAll got faults plan a c t first rest) (sym (bodies_both (x ∷ [])))
        (sent_then got faults plan a b c (map message_stanza (sealed meaning 0 xs)) (map message_stanza (sealed meaning n (x ∷ []))) first second rest h k.sent)

    pub more_sealed : SentBefore got faults plan b c (map message_stanza (sealed meaning n (x ∷ []))) second rest (unsealed meaning n (x ∷ [])) None
        → unsealed meaning 0 (xs ++ x ∷ []) ≡ None
    more_sealed k = number_both (x ∷ []) ∙ k.ends

    pub more_refused : (X Y : Type 0) (ys : List (List ℕ)) (e : SealMailError) → Sends got faults plan b c (map message_stanza (sealed meaning n (x ∷ []))) second rest {X = X} (unsealed meaning n (x ∷ [])) (Err e)
        → Sends got faults plan a c (map message_stanza (sealed meaning 0 (xs ++ x ∷ ys))) first rest {X = Y} (unsealed meaning 0 (xs ++ x ∷ ys)) (Err e)
    more_refused X Y ys e k =
        let it = one_first meaning n x ys in
        let before : List Stanza = map message_stanza (sealed meaning 0 xs) in
        let one : List Stanza = map message_stanza (sealed meaning n (x ∷ [])) in
        let whole : map message_stanza (sealed meaning 0 (xs ++ x ∷ ys)) ≡ (before ++ one) ++ map message_stanza it.more =
        bodies_both (x ∷ ys) ∙ (ap (λ (t : List (List ℕ)). before ++ map message_stanza t) it.bodies
        ∙ (ap (λ (t : List Stanza). before ++ t) (map-append message_stanza (sealed meaning n (x ∷ [])) it.more) ∙ sym (append_assoc before one (map message_stanza it.more)))) in
        let ends : unsealed meaning n (x ∷ []) ≢ None → (unsealed meaning 0 (xs ++ x ∷ ys) ≡ unsealed meaning n (x ∷ [])) × (map message_stanza it.more ≡ []) =
        λ some. (number_both (x ∷ ys) ∙ (it.number some).0, ap (map message_stanza) (it.number some).1) in
        let both = sends_then got faults plan a b c before one first second rest h {X = X} (unsealed meaning n (x ∷ [])) (Err e) k in
        subst (λ (t : List Stanza). Sends got faults plan a c t first rest {X = Y} (unsealed meaning 0 (xs ++ x ∷ ys)) (Err e)) (sym whole)
        (refused_front got faults plan a c (before ++ one) (map message_stanza it.more) first rest (unsealed meaning n (x ∷ [])) (unsealed meaning 0 (xs ++ x ∷ ys)) e ends X Y both)

  -- ---- a mail

  module _ (key : List ℕ) (messages : List (List ℕ)) where
    no_end : (number : Option ℕ) → number ≢ None → (number ≡ number) × (mail_end number ≡ [])
    no_end None some = absurd (some refl)
    no_end (Some n) some = (refl, refl)

    pub key_refused : (X Y : Type 0) (a b : W) (stream rest : Stream) (e : SealMailError) → Sends got faults plan a b (key_stanza key ∷ []) stream rest {X = X} None (Err e)
        → Sends got faults plan a b (key_stanza key ∷ sealed_stanzas meaning messages) stream rest {X = Y} (unsealed meaning 0 messages) (Err e)
    key_refused X Y a b stream rest e k =
        refused_front got faults plan a b (key_stanza key ∷ []) (sealed_stanzas meaning messages) stream rest None (unsealed meaning 0 messages) e (λ some. absurd (some refl)) X Y k

    pub messages_refused : (X Y : Type 0) (a b c : W) (first second rest : Stream) (e : SealMailError) → SentBefore got faults plan a b (key_stanza key ∷ []) first second None None
        → Sends got faults plan b c (map message_stanza (sealed meaning 0 messages)) second rest {X = X} (unsealed meaning 0 messages) (Err e)
        → Sends got faults plan a c (key_stanza key ∷ sealed_stanzas meaning messages) first rest {X = Y} (unsealed meaning 0 messages) (Err e)
    unfolding sealed_stanzas
    messages_refused X Y a b c first second rest e h k =
        let number : Option ℕ = unsealed meaning 0 messages in
        let mine : List Stanza = map message_stanza (sealed meaning 0 messages) in
        refused_front got faults plan a c (key_stanza key ∷ mine) (mail_end number) first rest number number e (no_end number) X Y
        (sends_then got faults plan a b c (key_stanza key ∷ []) mine first second rest h.sent {X = X} number (Err e) k)

    pub mail_done : {X : Type 0} (a b c d : W) (first second third rest : Stream) (result : Result X SealMailError) → SentBefore got faults plan a b (key_stanza key ∷ []) first second None None
        → SentBefore got faults plan b c (map message_stanza (sealed meaning 0 messages)) second third (unsealed meaning 0 messages) None
        → Sends got faults plan c d (done ∷ []) third rest None result
        → Sends got faults plan a d (key_stanza key ∷ sealed_stanzas meaning messages) first rest (unsealed meaning 0 messages) result
    unfolding sealed_stanzas
    mail_done a b c d first second third rest result h m k =
        let mine : List Stanza = map message_stanza (sealed meaning 0 messages) in
        let front = sent_then got faults plan a b c (key_stanza key ∷ []) mine first second third h.sent m.sent in
        subst (λ (number : Option ℕ). Sends got faults plan a d (key_stanza key ∷ (mine ++ mail_end number)) first rest number result) (sym m.ends)
        (sends_then got faults plan a c d (key_stanza key ∷ mine) (done ∷ []) first third rest front None result k)

-- ---- the call

module _ {W : Type 0} (got : W → Option (List ℕ)) (faults : W → ℕ) (plan : W → List ℕ) (sealer : Sealer) (messages : List (List ℕ)) (stream : Stream) where
  seals_mail-as : {X : Type 0} (a b : W) (rest : Stream) (result : Result X SealMailError) → sealer.setup_of (fill_bytes 32 stream).0 ≢ None
      → Sends got faults plan a b (mail_stanzas sealer messages (fill_bytes 32 stream).0) (fill_bytes 32 stream).1 rest (first_unsealed sealer messages (fill_bytes 32 stream).0) result
      → SealsMail got faults plan a b sealer messages stream rest result
  seals_mail-as a b rest (Ok x) there k = record { has_key = there; sealed = k.ends; sent = k.sent }
  seals_mail-as a b rest (Err NoMemory) there k = inr k
  seals_mail-as a b rest (Err XofExhausted) there k = absurd k
  seals_mail-as a b rest (Err (SealError n)) there k = record { has_key = there; sealed = k.ends; sent = k.sent }
  seals_mail-as a b rest (Err WriteFault) there k = k

  pub seals_mail : {X : Type 0} (a b : W) (second rest : Stream) (result : Result X SealMailError) (key : List ℕ) (context : Context) → sealer.setup_of (fill_bytes 32 stream).0 ≡ Some (key, context)
      → second ≡ (fill_bytes 32 stream).1
      → Sends got faults plan a b (key_stanza key ∷ sealed_stanzas (seal_at sealer.seal_of context) messages) second rest (unsealed (seal_at sealer.seal_of context) 0 messages) result
      → SealsMail got faults plan a b sealer messages stream rest result
  seals_mail a b second rest result key context setup stands given =
      let P : List Stanza → Stream → Option ℕ → Type 0 = λ stanzas s number. Sends got faults plan a b stanzas s rest number result in
      seals_mail-as a b rest result (λ none. none-some _ (sym none ∙ setup))
      (subst (λ (t : List Stanza). P t (fill_bytes 32 stream).1 (first_unsealed sealer messages (fill_bytes 32 stream).0)) (sym (stanzas_by sealer messages (fill_bytes 32 stream).0 key context setup))
      (subst (λ (number : Option ℕ). P (key_stanza key ∷ sealed_stanzas (seal_at sealer.seal_of context) messages) (fill_bytes 32 stream).1 number) (sym (number_by sealer messages (fill_bytes 32 stream).0 key context setup))
      (subst (λ (s : Stream). P (key_stanza key ∷ sealed_stanzas (seal_at sealer.seal_of context) messages) s (unsealed (seal_at sealer.seal_of context) 0 messages)) stands given)))

  pub ran_out_drawn : (a : W) (rest : Stream) → rest ≡ (fill_bytes 32 stream).1
      → RanOutAt got faults plan a a (mail_stanzas sealer messages (fill_bytes 32 stream).0) (fill_bytes 32 stream).1 rest
  ran_out_drawn a rest stands =
      let stanzas : List Stanza = mail_stanzas sealer messages (fill_bytes 32 stream).0 in
      subst (λ (s : Stream). RanOutAt got faults plan a a stanzas (fill_bytes 32 stream).1 s) (sym stands) (ran_out_nothing got faults plan a stanzas (fill_bytes 32 stream).1)

  pub untouched : (a : W) → Untouched got faults plan a a sealer messages stream stream
  untouched a = record { wrote = wrote_nothing got faults plan a; stands = refl }

-- what is none swapped is none
unmapped : (o : Option (List ℕ × List ℕ)) → option_map {U = List ℕ × List ℕ} (λ made. (made.1, made.0)) o ≡ None → o ≡ None
unmapped None e = refl
unmapped (Some made) e = absurd (none-some _ (sym e))

-- the sender's text of a mail that was sent to its end
pub sender_text_of : {W X : Type 0} (got : W → Option (List ℕ)) (faults : W → ℕ) (plan : W → List ℕ) (sealer : Sealer) (messages : List (List ℕ)) (stream rest : Stream) (a b : W) (result : Result X SealMailError)
    → SealsMail got faults plan a b sealer messages stream rest result → OnOk result (IsSenderText sealer messages (fill_bytes 32 stream).0 (mail_text sealer messages stream))
sender_text_of got faults plan sealer messages stream rest a b (Ok x) k = is_sender_text sealer messages stream k.has_key k.sealed k.sent.greased
sender_text_of got faults plan sealer messages stream rest a b (Err e) k = tt

-- nothing is encapsulated to a key only where a sample of its matrix is none
pub exhausted_matrix : (set : Parameters) (family : Family) (pk ek draw : List ℕ) → pk ≡ ek → lattice_encap set family pk None draw ≡ None → matrix family set.k (rho_part set ek) ≡ None
exhausted_matrix set family pk ek draw same none =
    subst (λ (k : List ℕ). matrix family set.k (rho_part set k) ≡ None) same
    (encaps-none-from set family pk draw (unmapped (encaps set family pk draw) none))

-- ---- where every message can be sealed

each_at : (seal_of : SealMeaning) (context : Context) (messages : List (List ℕ)) → AllByRecursion (λ text. (key nonce : List ℕ) → seal_of key nonce [] text ≢ None) messages
    → AllByRecursion (λ text. (number : ℕ) → seal_at seal_of context number text ≢ None) messages
each_at seal_of context [] all = tt
each_at seal_of context (text ∷ texts) all = ((λ number. all.0 context.key (nonce_of context.base_nonce number)), each_at seal_of context texts all.1)

first_unsealed-as : (sealer : Sealer) (messages : List (List ℕ)) (draw : List ℕ) (o : Option (List ℕ × Context)) → sealer.setup_of draw ≡ o
    → AllByRecursion (λ text. (key nonce : List ℕ) → sealer.seal_of key nonce [] text ≢ None) messages → first_unsealed sealer messages draw ≡ None
unfolding first_unsealed
first_unsealed-as sealer messages draw None e all = rw (e, first_unsealed) refl
first_unsealed-as sealer messages draw (Some made) e all =
    rw (e, first_unsealed) (unsealed-each (seal_at sealer.seal_of made.1) 0 messages (each_at sealer.seal_of made.1 messages all))

-- each message has a sealed text under any key and nonce, so none is refused
pub first_unsealed-each : (sealer : Sealer) (messages : List (List ℕ)) (draw : List ℕ) → AllByRecursion (λ text. (key nonce : List ℕ) → sealer.seal_of key nonce [] text ≢ None) messages
    → first_unsealed sealer messages draw ≡ None
first_unsealed-each sealer messages draw all = first_unsealed-as sealer messages draw (sealer.setup_of draw) refl all
