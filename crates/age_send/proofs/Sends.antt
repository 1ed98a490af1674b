-- Rolls, sends, and what they come to.
use Rattle.std.proofs.Common.{◌≡◌, ℕ, List, [], ◌∷◌, ◌++◌, Option, Some, None, Result, Ok, Err, refl, sym, ap, subst, ◌∙◌, append_assoc, inl, inr}
use Rattle.std.specs.Prelude.{◌⊎◌, IfSome, IsOk, OnOk, OnErr}
use Rattle.std.specs.List.{flat_map, AllByRecursion}
use Rattle.std.proofs.lemmas.List.{append-nil}
use Rattle.rand_core.specs.Stream.{Stream}
use Rattle.age_format.specs.Outside.{Gains, GainsPart, Wrote, WrotePart, WritesWhole}
use Rattle.age_format.specs.Stanza.{Stanza, IsStanza, spelling}
use Rattle.age_send.specs.Grease.{IsGrease}
use Rattle.age_send.specs.Sending.{AfterGrease, FaultBehindFirst, FaultInFirst, SendFailed, Sent, first_roll, second_roll, rolled_text, sent_text, text_behind}
use Rattle.age_send.specs.private.Rolling.{FaultInSecond, GreaseFailed, Greased, RollFailed, Rolled}
use Rattle.age_format.proofs.Writing.{gains_behind, gains_front, part_front, part_last, wrote_then}
use Rattle.age_send.proofs.Greases.{roll_is_grease}

-- whatever a value is
pub on_ok : {A E : Type 0} {P : Type 0} (r : Result A E) → P → OnOk r P
on_ok (Ok x) p = p
on_ok (Err e) p = tt

-- a call that answers as a write does
pub wrote_on_ok : {A B E F P : Type 0} (result : Result A E) (written : Result B F) (fault : E) (Q : Type 0) → OnErr written (result ≡ Err fault) → (OnOk written P) → (P → Q) → OnOk result Q
wrote_on_ok (Err e) written fault Q h k f = tt
wrote_on_ok (Ok r) (Ok x) fault Q h k f = f k
wrote_on_ok (Ok r) (Err e) fault Q h k f = absurd (cc h)

pub part_on_err : {A B E F P : Type 0} (result : Result A E) (written : Result B F) (fault : E) → OnOk written (IsOk result) → OnErr written P → result ≡ Err fault → P
part_on_err (Ok r) written fault h k e = absurd (cc e)
part_on_err (Err d) (Ok x) fault h k e = absurd (cc h)
part_on_err (Err d) (Err x) fault h k e = k

module _ {W : Type 0} (got : W → Option (List ℕ)) (faults : W → ℕ) (plan : W → List ℕ) where
  pub wrote_of : {B F : Type 0} (a b : W) (written : Result B F) (text : List ℕ) → WritesWhole got faults plan a b written text → OnOk written (Wrote got faults plan a b text)
  wrote_of a b (Ok x) text h = h
  wrote_of a b (Err e) text h = tt

  pub part_of : {B F : Type 0} (a b : W) (written : Result B F) (text : List ℕ) → WritesWhole got faults plan a b written text → OnErr written (WrotePart got faults plan a b text)
  part_of a b (Ok x) text h = tt
  part_of a b (Err e) text h = h.part

  -- ---- two rolls

  pub grease_failed_first : (a b : W) (s rest : Stream) → RollFailed got faults plan a b s rest → GreaseFailed got faults plan a b s rest
  grease_failed_first a b s rest h = record {
    wrote = part_front got faults plan a b (rolled_text (first_roll s).0) (rolled_text (second_roll s).0) h.wrote;
    place = inl (record { made = h.made; gained = h.wrote.gained; stands = h.stands });
  }

  pub grease_failed_second : (a b c : W) (s s1 rest : Stream) → Rolled got faults plan a b s s1 → RollFailed got faults plan b c s1 rest → GreaseFailed got faults plan a c s rest
  grease_failed_second a b c s s1 rest h k =
      let second = subst (λ (t : Stream). RollFailed got faults plan b c t rest) h.stands k in
      record {
        wrote = part_last got faults plan a b c (rolled_text (first_roll s).0) (rolled_text (second_roll s).0) h.wrote second.wrote;
        place = inr (record { gained = gains_behind (got a) (got b) (got c) (rolled_text (first_roll s).0) (rolled_text (second_roll s).0) h.wrote.gained second.wrote.gained; stands = second.stands });
      }

  -- ---- and a stanza

  module _ (sent : Stanza) (s : Stream) where
    sent_text-behind : sent_text sent s ≡ (rolled_text (first_roll s).0 ++ rolled_text (second_roll s).0) ++ spelling sent
    unfolding sent_text text_behind
    sent_text-behind = sym (append_assoc (rolled_text (first_roll s).0) (rolled_text (second_roll s).0) (spelling sent))

    pub sent_all : (a b c : W) (rest : Stream) → Greased got faults plan a b s rest → Wrote got faults plan b c (spelling sent) → Sent got faults plan a c sent s rest
    sent_all a b c rest h k = record {
      wrote = subst (λ (t : List ℕ). Wrote got faults plan a c t) (sym sent_text-behind) (wrote_then got faults plan a b c _ (spelling sent) h.wrote k);
      stands = h.stands;
    }

    behind_first : (before now : Option (List ℕ)) → IfSome before (λ had. GainsPart (Some (had ++ rolled_text (first_roll s).0)) now (rolled_text (second_roll s).0))
        → IfSome before (λ had. GainsPart (Some (had ++ rolled_text (first_roll s).0)) now (text_behind sent s))
    unfolding text_behind
    behind_first None now h = tt
    behind_first (Some had) now h = gains_front (Some (had ++ rolled_text (first_roll s).0)) now (rolled_text (second_roll s).0) (spelling sent) h

    place_of : (a b : W) (rest : Stream) → FaultInFirst got faults plan a b s rest ⊎ FaultInSecond got faults plan a b s rest → FaultInFirst got faults plan a b s rest ⊎ FaultBehindFirst got faults plan a b sent s rest
    place_of a b rest (inl h) = inl h
    place_of a b rest (inr h) = inr (record { gained = behind_first (got a) (got b) h.gained; stands = h.stands })

    pub failed_in_grease : (a b : W) (rest : Stream) → GreaseFailed got faults plan a b s rest → SendFailed got faults plan a b sent s rest
    failed_in_grease a b rest h = record {
      wrote = subst (λ (t : List ℕ). WrotePart got faults plan a b t) (sym sent_text-behind) (part_front got faults plan a b _ (spelling sent) h.wrote);
      place = place_of a b rest h.place;
    }

    same_bytes : (a b c d : List ℕ) → (a ++ (b ++ c)) ++ d ≡ (a ++ b) ++ (c ++ d)
    same_bytes a b c d = ap (λ (t : List ℕ). t ++ d) (sym (append_assoc a b c)) ∙ append_assoc (a ++ b) c d

    -- behind both rolls' text, a part of the stanza
    behind_both : (before mid now : Option (List ℕ)) → Gains before mid (rolled_text (first_roll s).0 ++ rolled_text (second_roll s).0) → GainsPart mid now (spelling sent)
        → IfSome before (λ had. GainsPart (Some (had ++ rolled_text (first_roll s).0)) now (text_behind sent s))
    unfolding text_behind
    behind_both None mid now h k = tt
    behind_both (Some had) mid now h k =
        let first = rolled_text (first_roll s).0 in
        let second = rolled_text (second_roll s).0 in
        let part = subst (λ (o : Option (List ℕ)). GainsPart o now (spelling sent)) h k in (
          second ++ part.0,
          part.1,
          ap (λ (t : List ℕ). second ++ t) part.2 ∙ sym (append_assoc second part.0 part.1),
          part.3 ∙ ap Some (same_bytes had first second part.0),
        )

    pub failed_behind : (a b c : W) (rest : Stream) → Greased got faults plan a b s rest → WrotePart got faults plan b c (spelling sent) → SendFailed got faults plan a c sent s rest
    failed_behind a b c rest h k = record {
      wrote = subst (λ (t : List ℕ). WrotePart got faults plan a c t) (sym sent_text-behind) (part_last got faults plan a b c _ (spelling sent) h.wrote k);
      place = inr (record { gained = behind_both (got a) (got b) (got c) h.wrote.gained k.gained; stands = h.stands });
    }

-- ---- what a send writes is stanzas

-- what a roll makes, as a list
rolled : Option Stanza → List Stanza
rolled None = []
rolled (Some x) = x ∷ []

abbrev rolled_both : Option Stanza → Option Stanza → List Stanza
rolled_both first second = rolled first ++ rolled second

both_text : (first second : Option Stanza) (end : List ℕ) → rolled_text first ++ (rolled_text second ++ end) ≡ flat_map spelling (rolled_both first second) ++ end
unfolding rolled
both_text None None end = refl
both_text None (Some y) end = ap (λ (t : List ℕ). t ++ end) (sym (append-nil (spelling y)))
both_text (Some x) None end = ap (λ (t : List ℕ). t ++ end) (sym (append-nil (spelling x)))
both_text (Some x) (Some y) end = sym (append_assoc (spelling x) (spelling y) end) ∙ ap (λ (t : List ℕ). (spelling x ++ t) ++ end) (sym (append-nil (spelling y)))

both_each : (P : Stanza → Type 0) (first second : Option Stanza) → IfSome first P → IfSome second P → AllByRecursion P (rolled_both first second)
unfolding rolled
both_each P None None h k = tt
both_each P None (Some y) h k = (k, tt)
both_each P (Some x) None h k = (h, tt)
both_each P (Some x) (Some y) h k = (h, (k, tt))

pub after_grease : (sent : Stanza) (s : Stream) → IfSome (first_roll s).0 IsStanza → IfSome (second_roll s).0 IsStanza → IsStanza sent → AfterGrease (sent_text sent s) sent
unfolding sent_text text_behind
after_grease sent s first second is = record {
  grease = rolled_both (first_roll s).0 (second_roll s).0;
  whole = both_text (first_roll s).0 (second_roll s).0 (spelling sent);
  each = both_each IsStanza (first_roll s).0 (second_roll s).0 first second;
  each_is_grease = both_each IsGrease (first_roll s).0 (second_roll s).0 (roll_is_grease s) (roll_is_grease (first_roll s).1);
  sent_is = is;
}
