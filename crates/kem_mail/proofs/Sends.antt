-- Sends that follow one another.
use Rattle.std.proofs.Common.{◌≡◌, ◌≢◌, ℕ, ◌≤◌, List, [], ◌∷◌, ◌++◌, length, Option, Some, None, refl, sym, ap, subst, ◌∙◌, ◌⊎◌, inl, inr, append_assoc}
use Rattle.std.specs.Prelude.{IfErr, IfSome, IsErrOf, OnOk, Result, Ok, Err}
use Rattle.std.proofs.lemmas.List.{append-nil}
use Rattle.rand_core.specs.Stream.{Stream}
use Rattle.age_format.specs.Outside.{Wrote, WrotePart}
use Rattle.age_format.proofs.Writing.{part_front, part_last, wrote_nothing, wrote_then}
use Rattle.age_format.specs.Stanza.{Stanza}
use Rattle.age_format.specs.declared.error.PhaseError.{PhaseError}
use Rattle.age_format.specs.declared.error.PhaseError.TheVariants.{NoMemory as PhaseNoMemory, WriteFault as PhaseWriteFault, ReadFault as PhaseReadFault, InvalidData as PhaseInvalidData, UnexpectedEof as PhaseUnexpectedEof, TooMuch as PhaseTooMuch, UnexpectedReply as PhaseUnexpectedReply}
use Rattle.age_send.specs.Sending.{AfterGrease, SendFailed, SendRanOut, Sent, first_roll, rolled_text, second_roll, sent_text, text_behind}
use Rattle.kem_mail.specs.private.Causes.{of_send}
use Rattle.kem_mail.specs.Sent.{AllAfterGrease, FailedAt, RanOutAt, SentAll, behind_sends, stanzas_text}
use Rattle.kem_mail.specs.private.Sends.{Sends}
use Rattle.kem_mail.specs.declared.error.SealMailError.{SealMailError}
use Rattle.kem_mail.specs.declared.error.SealMailError.TheVariants.{NoMemory, XofExhausted, SealError, WriteFault}

-- ---- texts

pub stanzas_text-append : (xs ys : List Stanza) (stream : Stream) → stanzas_text (xs ++ ys) stream ≡ stanzas_text xs stream ++ stanzas_text ys (behind_sends (length xs) stream)
unfolding stanzas_text behind_sends
stanzas_text-append [] ys stream = refl
stanzas_text-append (x ∷ xs) ys stream =
    let next : Stream = (second_roll stream).1 in
    ap (λ (t : List ℕ). sent_text x stream ++ t) (stanzas_text-append xs ys next) ∙ sym (append_assoc (sent_text x stream) (stanzas_text xs next) (stanzas_text ys (behind_sends (length xs) next)))

pub behind_sends-append : (xs ys : List Stanza) (stream : Stream) → behind_sends (length (xs ++ ys)) stream ≡ behind_sends (length ys) (behind_sends (length xs) stream)
unfolding behind_sends
behind_sends-append [] ys stream = refl
behind_sends-append (x ∷ xs) ys stream = behind_sends-append xs ys (second_roll stream).1

AllAfterGrease-append : (xs ys : List Stanza) (stream : Stream) → AllAfterGrease xs stream → AllAfterGrease ys (behind_sends (length xs) stream) → AllAfterGrease (xs ++ ys) stream
unfolding AllAfterGrease behind_sends
AllAfterGrease-append [] ys stream h k = k
AllAfterGrease-append (x ∷ xs) ys stream h k = (h.0, AllAfterGrease-append xs ys (second_roll stream).1 h.1 k)

module _ {W : Type 0} (got : W → Option (List ℕ)) (faults : W → ℕ) (plan : W → List ℕ) where
  -- ---- one send after another

  pub sent_nothing : (a : W) (stream : Stream) → SentAll got faults plan a a [] stream stream
  unfolding stanzas_text behind_sends AllAfterGrease
  sent_nothing a stream = record { wrote = wrote_nothing got faults plan a; stands = refl; greased = tt }

  pub ran_out_nothing : (a : W) (ys : List Stanza) (stream : Stream) → RanOutAt got faults plan a a ys stream stream
  unfolding stanzas_text behind_sends AllAfterGrease
  ran_out_nothing a ys stream = record {
    part = [];
    more = stanzas_text ys stream;
    whole = refl;
    wrote = wrote_nothing got faults plan a;
    sent = [];
    unsent = ys;
    parts = refl;
    between = a;
    wrote_sent = wrote_nothing got faults plan a;
    greased = tt;
    stopped = inl (wrote_nothing got faults plan a, refl);
  }

  -- a send alone
  pub sent_one : (a b : W) (s : Stanza) (stream rest : Stream) → Wrote got faults plan a b (sent_text s stream) → rest ≡ (second_roll stream).1 → AfterGrease (sent_text s stream) s
      → SentAll got faults plan a b (s ∷ []) stream rest
  unfolding stanzas_text behind_sends AllAfterGrease
  sent_one a b s stream rest wrote stands greased = record {
    wrote = subst (Wrote got faults plan a b) (sym (append-nil (sent_text s stream))) wrote;
    stands = stands;
    greased = (greased, tt);
  }

  pub failed_one : (a b : W) (s : Stanza) (stream rest : Stream) → SendFailed got faults plan a b s stream rest → FailedAt got faults plan a b (s ∷ []) stream rest
  unfolding stanzas_text behind_sends
  failed_one a b s stream rest failed = record {
    wrote = subst (WrotePart got faults plan a b) (sym (append-nil (sent_text s stream))) failed.wrote;
    sent = [];
    next = s;
    unsent = [];
    parts = refl;
    between = a;
    wrote_sent = wrote_nothing got faults plan a;
    failed = failed;
  }

  -- no memory for the grease of a send
  pub ran_out_one : (a b : W) (s : Stanza) (stream rest : Stream) → SendRanOut got faults plan a b stream rest → RanOutAt got faults plan a b (s ∷ []) stream rest
  unfolding stanzas_text behind_sends AllAfterGrease sent_text
  ran_out_one a b s stream rest (inl h) = record {
    part = [];
    more = sent_text s stream ++ [];
    whole = refl;
    wrote = h.wrote;
    sent = [];
    unsent = s ∷ [];
    parts = refl;
    between = a;
    wrote_sent = wrote_nothing got faults plan a;
    greased = tt;
    stopped = inr ((λ e. cc), inl h);
  }
  ran_out_one a b s stream rest (inr h) = record {
    part = rolled_text (first_roll stream).0;
    more = text_behind s stream ++ [];
    whole = append_assoc (rolled_text (first_roll stream).0) (text_behind s stream) [];
    wrote = h.wrote;
    sent = [];
    unsent = s ∷ [];
    parts = refl;
    between = a;
    wrote_sent = wrote_nothing got faults plan a;
    greased = tt;
    stopped = inr ((λ e. cc), inr h);
  }

  -- what a send came to
  pub sends_alone : {X : Type 0} (a b : W) (s : Stanza) (stream rest : Stream) (outcome : Result X PhaseError) → OnOk outcome (Sent got faults plan a b s stream rest) → OnOk outcome (AfterGrease (sent_text s stream) s)
      → (IsErrOf outcome PhaseWriteFault → SendFailed got faults plan a b s stream rest) → (IsErrOf outcome PhaseNoMemory → SendRanOut got faults plan a b stream rest)
      → IfErr outcome (λ e. (e ≡ PhaseWriteFault) ⊎ (e ≡ PhaseNoMemory)) → Sends got faults plan a b (s ∷ []) stream rest None (of_send outcome)
  sends_alone a b s stream rest (Ok x) sent greased fault memory only = record { ends = refl; sent = sent_one a b s stream rest sent.wrote sent.stands greased }
  sends_alone a b s stream rest (Err PhaseNoMemory) sent greased fault memory only = ran_out_one a b s stream rest (memory refl)
  sends_alone a b s stream rest (Err PhaseWriteFault) sent greased fault memory only = failed_one a b s stream rest (fault refl)
  sends_alone a b s stream rest (Err PhaseReadFault) sent greased fault memory only = absurd (elim only [ inl e ↦ cc | inr e ↦ cc ])
  sends_alone a b s stream rest (Err PhaseInvalidData) sent greased fault memory only = absurd (elim only [ inl e ↦ cc | inr e ↦ cc ])
  sends_alone a b s stream rest (Err PhaseUnexpectedEof) sent greased fault memory only = absurd (elim only [ inl e ↦ cc | inr e ↦ cc ])
  sends_alone a b s stream rest (Err PhaseTooMuch) sent greased fault memory only = absurd (elim only [ inl e ↦ cc | inr e ↦ cc ])
  sends_alone a b s stream rest (Err (PhaseUnexpectedReply tag)) sent greased fault memory only = absurd (elim only [ inl e ↦ cc | inr e ↦ cc ])

  module _ (a b c : W) (xs ys : List Stanza) (first second rest : Stream) (h : SentAll got faults plan a b xs first second) where
    text_both : List ℕ
    text_both = stanzas_text xs first ++ stanzas_text ys (behind_sends (length xs) first)

    pub sent_then : SentAll got faults plan b c ys second rest → SentAll got faults plan a c (xs ++ ys) first rest
    sent_then given =
        let k = subst (λ (s : Stream). SentAll got faults plan b c ys s rest) h.stands given in
        record {
          wrote = subst (Wrote got faults plan a c) (sym (stanzas_text-append xs ys first)) (wrote_then got faults plan a b c (stanzas_text xs first) (stanzas_text ys (behind_sends (length xs) first)) h.wrote k.wrote);
          stands = k.stands ∙ sym (behind_sends-append xs ys first);
          greased = AllAfterGrease-append xs ys first h.greased k.greased;
        }

    pub failed_then : FailedAt got faults plan b c ys second rest → FailedAt got faults plan a c (xs ++ ys) first rest
    failed_then given =
        let k = subst (λ (s : Stream). FailedAt got faults plan b c ys s rest) h.stands given in
        let behind : Stream = behind_sends (length xs) first in
        record {
          wrote = subst (WrotePart got faults plan a c) (sym (stanzas_text-append xs ys first)) (part_last got faults plan a b c (stanzas_text xs first) (stanzas_text ys behind) h.wrote k.wrote);
          sent = xs ++ k.sent;
          next = k.next;
          unsent = k.unsent;
          parts = ap (λ (t : List Stanza). xs ++ t) k.parts ∙ sym (append_assoc xs k.sent (k.next ∷ k.unsent));
          between = k.between;
          wrote_sent = subst (Wrote got faults plan a k.between) (sym (stanzas_text-append xs k.sent first)) (wrote_then got faults plan a b k.between (stanzas_text xs first) (stanzas_text k.sent behind) h.wrote k.wrote_sent);
          failed = subst (λ (s : Stream). SendFailed got faults plan k.between c k.next s rest) (sym (behind_sends-append xs k.sent first)) k.failed;
        }

    pub ran_out_then : RanOutAt got faults plan b c ys second rest → RanOutAt got faults plan a c (xs ++ ys) first rest
    ran_out_then given =
        let k = subst (λ (s : Stream). RanOutAt got faults plan b c ys s rest) h.stands given in
        let behind : Stream = behind_sends (length xs) first in
        record {
          part = stanzas_text xs first ++ k.part;
          more = k.more;
          whole = stanzas_text-append xs ys first ∙ (ap (λ (t : List ℕ). stanzas_text xs first ++ t) k.whole ∙ sym (append_assoc (stanzas_text xs first) k.part k.more));
          wrote = wrote_then got faults plan a b c (stanzas_text xs first) k.part h.wrote k.wrote;
          sent = xs ++ k.sent;
          unsent = k.unsent;
          parts = ap (λ (t : List Stanza). xs ++ t) k.parts ∙ sym (append_assoc xs k.sent k.unsent);
          between = k.between;
          wrote_sent = subst (Wrote got faults plan a k.between) (sym (stanzas_text-append xs k.sent first)) (wrote_then got faults plan a b k.between (stanzas_text xs first) (stanzas_text k.sent behind) h.wrote k.wrote_sent);
          greased = AllAfterGrease-append xs k.sent first h.greased k.greased;
          stopped = subst (λ (s : Stream). (Wrote got faults plan k.between c [] × (rest ≡ s)) ⊎ ((k.unsent ≢ []) × SendRanOut got faults plan k.between c s rest)) (sym (behind_sends-append xs k.sent first)) k.stopped;
        }

    -- sends that go on behind others
    pub sends_then : {X : Type 0} (number : Option ℕ) (result : Result X SealMailError) → Sends got faults plan b c ys second rest number result → Sends got faults plan a c (xs ++ ys) first rest number result
    sends_then number (Ok x) k = record { ends = k.ends; sent = sent_then k.sent }
    sends_then number (Err NoMemory) k = ran_out_then k
    sends_then number (Err XofExhausted) k = k
    sends_then number (Err (SealError n)) k = record { ends = k.ends; sent = sent_then k.sent }
    sends_then number (Err WriteFault) k = failed_then k

  module _ (a c : W) (xs zs : List Stanza) (stream rest : Stream) where
    failed_front : FailedAt got faults plan a c xs stream rest → FailedAt got faults plan a c (xs ++ zs) stream rest
    failed_front k = record {
      wrote = subst (WrotePart got faults plan a c) (sym (stanzas_text-append xs zs stream)) (part_front got faults plan a c (stanzas_text xs stream) (stanzas_text zs (behind_sends (length xs) stream)) k.wrote);
      sent = k.sent;
      next = k.next;
      unsent = k.unsent ++ zs;
      parts = ap (λ (t : List Stanza). t ++ zs) k.parts ∙ append_assoc k.sent (k.next ∷ k.unsent) zs;
      between = k.between;
      wrote_sent = k.wrote_sent;
      failed = k.failed;
    }

    more_unsent : (unsent : List Stanza) → unsent ≢ [] → unsent ++ zs ≢ []
    more_unsent [] some = absurd (some refl)
    more_unsent (u ∷ us) some = λ e. cc

    ran_out_front : RanOutAt got faults plan a c xs stream rest → RanOutAt got faults plan a c (xs ++ zs) stream rest
    ran_out_front k = record {
      part = k.part;
      more = k.more ++ stanzas_text zs (behind_sends (length xs) stream);
      whole = stanzas_text-append xs zs stream ∙ (ap (λ (t : List ℕ). t ++ stanzas_text zs (behind_sends (length xs) stream)) k.whole ∙ append_assoc k.part k.more (stanzas_text zs (behind_sends (length xs) stream)));
      wrote = k.wrote;
      sent = k.sent;
      unsent = k.unsent ++ zs;
      parts = ap (λ (t : List Stanza). t ++ zs) k.parts ∙ append_assoc k.sent k.unsent zs;
      between = k.between;
      wrote_sent = k.wrote_sent;
      greased = k.greased;
      stopped = elim k.stopped [ inl h ↦ inl h | inr h ↦ inr (more_unsent k.unsent h.0, h.1) ];
    }

    same_sent : zs ≡ [] → SentAll got faults plan a c xs stream rest → SentAll got faults plan a c (xs ++ zs) stream rest
    same_sent none k = subst (λ (t : List Stanza). SentAll got faults plan a c t stream rest) (sym (ap (λ (t : List Stanza). xs ++ t) none ∙ append-nil xs)) k

    -- sends that were refused, where others would have followed
    pub refused_front : (number other : Option ℕ) (e : SealMailError) → (number ≢ None → (other ≡ number) × (zs ≡ [])) → (X Y : Type 0) → Sends got faults plan a c xs stream rest {X = X} number (Err e)
        → Sends got faults plan a c (xs ++ zs) stream rest {X = Y} other (Err e)
    refused_front number other NoMemory ends X Y k = ran_out_front k
    refused_front number other XofExhausted ends X Y k = k
    refused_front number other (SealError n) ends X Y k =
        let last = ends (λ none. let e = sym k.ends ∙ none in cc) in
        record { ends = last.0 ∙ k.ends; sent = same_sent last.1 k.sent }
    refused_front number other WriteFault ends X Y k = failed_front k
