-- Where memory ran out between sends, whole stanzas were written.
use Rattle.std.proofs.Common.{◌≡◌, ◌≢◌, ℕ, zero, suc, List, [], ◌∷◌, ◌++◌, length, Option, Some, None, Result, Ok, Err, refl, sym, ap, subst, ◌∙◌, inl, inr, append_assoc}
use Rattle.std.specs.Prelude.{IfSome}
use Rattle.std.specs.List.{flat_map}
use Rattle.std.proofs.lemmas.List.{append-nil}
use Rattle.std.proofs.lemmas.List.Concat.{flat_map-append}
use Rattle.rand_core.specs.Stream.{Stream, bytes_call, fill_bytes}
use Rattle.age_format.specs.Outside.{Wrote}
use Rattle.age_format.specs.Stanza.{Stanza, IsStanza, spelling}
use Rattle.age_send.specs.Grease.{GivesBytes}
use Rattle.age_send.specs.Sending.{AfterGrease, first_roll, rolled_text, second_roll, sent_text, text_behind}
use Rattle.age_send.proofs.Greases.{gives_roll, roll_is_stanza}
use Rattle.kem_mail.specs.Sealing.{Sealer, mail_stanzas}
use Rattle.kem_mail.specs.Sent.{AllAfterGrease, AreStanzas, RanOutAt, SealsMail, behind_sends, stanzas_text}
use Rattle.kem_mail.specs.declared.error.SealMailError.{SealMailError}
use Rattle.kem_mail.specs.declared.error.SealMailError.TheVariants.{NoMemory, XofExhausted, SealError, WriteFault}
use Rattle.kem_mail.proofs.Greased.{both_all}
use Rattle.kem_mail.proofs.Sends.{stanzas_text-append}
use Rattle.age_format.proofs.Writing.{wrote_then}

pub no_stanzas : AreStanzas []
no_stanzas = record { stanzas = []; each = tt; spelled = refl }

more_stanzas : (xs ys : List ℕ) → AreStanzas xs → AreStanzas ys → AreStanzas (xs ++ ys)
more_stanzas xs ys h k = record {
  stanzas = h.stanzas ++ k.stanzas;
  each = both_all IsStanza h.stanzas k.stanzas h.each k.each;
  spelled = ap (λ (t : List ℕ). t ++ ys) h.spelled ∙ (ap (λ (t : List ℕ). flat_map spelling h.stanzas ++ t) k.spelled ∙ sym (flat_map-append spelling h.stanzas k.stanzas));
}

-- a stanza behind its grease
greased_stanzas : (text : List ℕ) (sent : Stanza) → AfterGrease text sent → AreStanzas text
greased_stanzas text sent h = record {
  stanzas = h.grease ++ sent ∷ [];
  each = both_all IsStanza h.grease (sent ∷ []) h.each (h.sent_is, tt);
  spelled = h.whole ∙ (ap (λ (t : List ℕ). flat_map spelling h.grease ++ t) (sym (append-nil (spelling sent))) ∙ sym (flat_map-append spelling h.grease (sent ∷ [])));
}

-- all that was sent
sent_stanzas : (xs : List Stanza) (stream : Stream) → AllAfterGrease xs stream → AreStanzas (stanzas_text xs stream)
unfolding stanzas_text AllAfterGrease
sent_stanzas [] stream greased = no_stanzas
sent_stanzas (x ∷ xs) stream greased =
    let next : Stream = (second_roll stream).1 in
    more_stanzas (sent_text x stream) (stanzas_text xs next) (greased_stanzas (sent_text x stream) x greased.0) (sent_stanzas xs next greased.1)

-- the grease of a roll
rolled_stanzas : (o : Option Stanza) → IfSome o IsStanza → AreStanzas (rolled_text o)
rolled_stanzas None is = no_stanzas
rolled_stanzas (Some grease) is = record { stanzas = grease ∷ []; each = (is, tt); spelled = sym (append-nil (spelling grease)) }

gives_sends : (n : ℕ) (stream : Stream) → GivesBytes stream → GivesBytes (behind_sends n stream)
unfolding behind_sends
gives_sends zero stream gives = gives
gives_sends (suc n) stream gives = gives_sends n (second_roll stream).1 (gives_roll (first_roll stream).1 (gives_roll stream gives))

-- the first roll of the next send begins what is left
unsent_text : (unsent : List Stanza) (stream : Stream) → unsent ≢ [] → (more : List ℕ) × (stanzas_text unsent stream ≡ rolled_text (first_roll stream).0 ++ more)
unfolding stanzas_text sent_text
unsent_text [] stream some = absurd (some refl)
unsent_text (u ∷ us) stream some =
    let next : Stream = (second_roll stream).1 in
    (text_behind u stream ++ stanzas_text us next, append_assoc (rolled_text (first_roll stream).0) (text_behind u stream) (stanzas_text us next))

module _ {W : Type 0} (got : W → Option (List ℕ)) (faults : W → ℕ) (plan : W → List ℕ) (before now : W) where
  -- exactly a front of a text was written, which is whole stanzas
  pub record WroteStanzas (text : List ℕ) : Type 0 where
    pub part : List ℕ
    pub more : List ℕ
    pub whole : text ≡ part ++ more
    pub are : AreStanzas part
    pub wrote : Wrote got faults plan before now part

  module _ (stanzas : List Stanza) (stream rest : Stream) (gives : GivesBytes stream) (k : RanOutAt got faults plan before now stanzas stream rest) where
    text_is : stanzas_text stanzas stream ≡ stanzas_text k.sent stream ++ stanzas_text k.unsent (behind_sends (length k.sent) stream)
    text_is = ap (λ (t : List Stanza). stanzas_text t stream) k.parts ∙ stanzas_text-append k.sent k.unsent stream

    none_more : Wrote got faults plan k.between now [] → WroteStanzas (stanzas_text stanzas stream)
    none_more nothing = record {
      part = stanzas_text k.sent stream;
      more = stanzas_text k.unsent (behind_sends (length k.sent) stream);
      whole = text_is;
      are = sent_stanzas k.sent stream k.greased;
      wrote = subst (Wrote got faults plan before now) (append-nil (stanzas_text k.sent stream)) (wrote_then got faults plan before k.between now (stanzas_text k.sent stream) [] k.wrote_sent nothing);
    }

    first_more : k.unsent ≢ [] → Wrote got faults plan k.between now (rolled_text (first_roll (behind_sends (length k.sent) stream)).0) → WroteStanzas (stanzas_text stanzas stream)
    first_more some wrote =
        let next : Stream = behind_sends (length k.sent) stream in
        let sent : List ℕ = stanzas_text k.sent stream in
        let rolled : List ℕ = rolled_text (first_roll next).0 in
        let left = unsent_text k.unsent next some in
        record {
          part = sent ++ rolled;
          more = left.0;
          whole = text_is ∙ (ap (λ (t : List ℕ). sent ++ t) left.1 ∙ sym (append_assoc sent rolled left.0));
          are = more_stanzas sent rolled (sent_stanzas k.sent stream k.greased) (rolled_stanzas (first_roll next).0 (roll_is_stanza next (gives_sends (length k.sent) stream gives)));
          wrote = wrote_then got faults plan before k.between now sent rolled k.wrote_sent wrote;
        }

    -- of a random source that gives bytes
    pub ran_out_whole : WroteStanzas (stanzas_text stanzas stream)
    ran_out_whole = elim k.stopped [
      | inl stop ↦ none_more stop.0
      | inr stop ↦ elim stop.1 [
        | inl first ↦ none_more first.wrote
        | inr second ↦ first_more stop.0 second.wrote
      ]
    ]

gives_drawn : (n : ℕ) (stream : Stream) → GivesBytes stream → GivesBytes (fill_bytes n stream).1
unfolding fill_bytes
gives_drawn n stream gives calls m = gives (bytes_call n ∷ calls) m

-- what stands of a mail where memory ran out
pub mail_stopped : {W X : Type 0} (got : W → Option (List ℕ)) (faults : W → ℕ) (plan : W → List ℕ) (before now : W) (sealer : Sealer) (messages : List (List ℕ)) (stream rest : Stream) (result : Result X SealMailError)
    → SealsMail got faults plan before now sealer messages stream rest result → GivesBytes stream → result ≡ Err NoMemory → (written : List ℕ) × AreStanzas written × Wrote got faults plan before now written
mail_stopped got faults plan before now sealer messages stream rest (Ok x) k gives e = absurd cc
mail_stopped got faults plan before now sealer messages stream rest (Err NoMemory) (inl nothing) gives e = ([], no_stanzas, nothing.wrote)
mail_stopped got faults plan before now sealer messages stream rest (Err NoMemory) (inr k) gives e =
    let whole = ran_out_whole got faults plan before now (mail_stanzas sealer messages (fill_bytes 32 stream).0) (fill_bytes 32 stream).1 rest (gives_drawn 32 stream gives) k in
    (whole.part, whole.are, whole.wrote)
mail_stopped got faults plan before now sealer messages stream rest (Err XofExhausted) k gives e = absurd cc
mail_stopped got faults plan before now sealer messages stream rest (Err (SealError n)) k gives e = absurd cc
mail_stopped got faults plan before now sealer messages stream rest (Err WriteFault) k gives e = absurd cc
