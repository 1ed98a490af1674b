-- Runs of receiving and answering, joined one stanza after another.
use Rattle.std.proofs.Common.{◌≡◌, ℕ, ◌<◌, ◌≤◌, List, [], ◌∷◌, ◌++◌, Option, Some, None, refl, sym, ap, subst, ◌∙◌, append_assoc, inl}
use Rattle.std.specs.Prelude.{IfSome, Err, IsErrOf}
use Rattle.std.specs.List.{flat_map}
use Rattle.std.proofs.lemmas.List.{append-nil}
use Rattle.std.proofs.lemmas.List.Concat.{flat_map-append}
use Rattle.age_format.specs.declared.error.PhaseError.{PhaseError}
use Rattle.age_format.specs.declared.error.PhaseError.TheVariants.{NoMemory, WriteFault, ReadFault, InvalidData, UnexpectedEof, TooMuch, UnexpectedReply}
use Rattle.age_format.specs.Outside.{Rose, Gains, Wrote, WroteLess}
use Rattle.age_format.specs.Stanza.{Stanza, IsFront}
use Rattle.age_format.specs.Front.{IsMalformed}
use Rattle.age_format.specs.Receiving.{Took, Receives}
use Rattle.age_format.proofs.Receipts.{Little, receives_none, receives_both, little_more}
use Rattle.age_core.specs.declared.plugin.connection.Connection.{Connection}
use Rattle.age_core.specs.Connecting.{source_of, sink_of, held_by}
use Rattle.age_core.specs.Exchanges.{Exchanged, Interrupted, ReadLittle, ReceiveRefused}

-- ---- what was written

gains_none : (a : Option (List ℕ)) → Gains a a []
gains_none None = tt
gains_none (Some g) = ap (λ (x : List ℕ). Some x) (sym (append-nil g))

gains_both : (a b c : Option (List ℕ)) (t u : List ℕ) → Gains a b t → Gains b c u → Gains a c (t ++ u)
gains_both None b c t u h k = tt
gains_both (Some g) b c t u h k =
    subst (λ (o : Option (List ℕ)). Gains o c u) h k ∙ ap (λ (x : List ℕ). Some x) (append_assoc g t u)

-- the text of replies, and of one more
pub last_text : (f : Stanza → List ℕ) (ss : List Stanza) (s : Stanza) → flat_map f (ss ++ s ∷ []) ≡ flat_map f ss ++ f s
last_text f ss s = flat_map-append f ss (s ∷ []) ∙ ap (λ (t : List ℕ). flat_map f ss ++ t) (append-nil (f s))

-- where a source's end was seen later, it ended
pub ended_first : (l m n : Option (List ℕ)) (taken : List ℕ) → Took l m taken → IfSome m (λ _. n ≡ Some []) → IfSome l (λ _. n ≡ Some [])
ended_first None m n taken h k = tt
ended_first (Some text) m n taken h k = subst (λ (o : Option (List ℕ)). IfSome o (λ _. n ≡ Some [])) h.2 k

module _ {R W : Type 0} (left : R → Option (List ℕ)) (reads : R → ℕ) (got : W → Option (List ℕ)) (faults : W → ℕ) (plan : W → List ℕ) (first : Connection R W) where
  pub exchanged_none : Exchanged left reads got faults plan first first [] []
  exchanged_none = record {
    received = receives_none (held_by first) (left (source_of first));
    wrote = record { gained = gains_none (got (sink_of first)); no_fault = refl; same_plan = refl };
  }

  pub little_none : ReadLittle left reads got faults plan first first
  little_none = record { no_fault = refl; little = inl (refl, refl) }

  module _ (a b : Connection R W) where
    -- stanzas were received, and nothing was written
    pub exchanged_received : (ss ts : List Stanza) (text : List ℕ) → Exchanged left reads got faults plan first a ss text
        → Receives (held_by a) (held_by b) (left (source_of a)) (left (source_of b)) ts → sink_of b ≡ sink_of a → Exchanged left reads got faults plan first b (ss ++ ts) text
    exchanged_received ss ts text h k same = record {
      received = receives_both (held_by first) (held_by a) (held_by b) (left (source_of first)) (left (source_of a)) (left (source_of b)) ss ts h.received k;
      wrote = subst (λ (w : W). Wrote got faults plan (sink_of first) w text) (sym same) h.wrote;
    }

    pub little_received : (s : Stanza) → ReadLittle left reads got faults plan first a
        → Receives (held_by a) (held_by b) (left (source_of a)) (left (source_of b)) (s ∷ []) → Little (held_by a) (held_by b) (source_of a) (source_of b)
        → reads (source_of b) ≡ reads (source_of a) → ReadLittle left reads got faults plan first b
    little_received s h k more none = record {
      no_fault = none ∙ h.no_fault;
      little = little_more (held_by first) (held_by a) (held_by b) (source_of first) (source_of a) (source_of b) (left (source_of a)) (left (source_of b)) s h.little k more;
    }

    -- text was written, and nothing was received
    module _ (same : source_of b ≡ source_of a) (held : held_by b ≡ held_by a) where
      pub exchanged_wrote : (ss : List Stanza) (text more : List ℕ) → Exchanged left reads got faults plan first a ss text
          → Wrote got faults plan (sink_of a) (sink_of b) more → Exchanged left reads got faults plan first b ss (text ++ more)
      exchanged_wrote ss text more h k = record {
        received = rw (same, held) h.received;
        wrote = record {
          gained = gains_both (got (sink_of first)) (got (sink_of a)) (got (sink_of b)) text more h.wrote.gained k.gained;
          no_fault = k.no_fault ∙ h.wrote.no_fault;
          same_plan = k.same_plan ∙ h.wrote.same_plan;
        };
      }

      pub interrupted : (ss : List Stanza) (text more : List ℕ) → Exchanged left reads got faults plan first a ss text
          → WroteLess got faults plan (sink_of a) (sink_of b) more → Interrupted left reads got faults plan first b ss text more
      interrupted ss text more h k = record { received = rw (same, held) h.received; between = sink_of a; wrote = h.wrote; wrote_less = k }

      pub little_wrote : ReadLittle left reads got faults plan first a → ReadLittle left reads got faults plan first b
      little_wrote h = record { no_fault = ap reads same ∙ h.no_fault; little = rw (same, held) h.little }

    -- receiving was refused
    module _ (none : reads (source_of a) ≡ reads (source_of first)) (taken : List ℕ) (took : Took (left (source_of first)) (left (source_of a)) taken) where
      pub refused_first : {A : Type 0} (e : PhaseError)
          → (IsErrOf {T = A} (Err e) ReadFault → Rose (reads (source_of a)) (reads (source_of b)) × IsFront (held_by b).bytes × (0 < (held_by b).budget))
          → ((IsErrOf {T = A} (Err e) ReadFault → ⊥) → reads (source_of b) ≡ reads (source_of a))
          → (IsErrOf {T = A} (Err e) WriteFault → ⊥)
          → (IsErrOf {T = A} (Err e) InvalidData → IsMalformed (held_by b).bytes)
          → (IsErrOf {T = A} (Err e) UnexpectedEof → IsFront (held_by b).bytes × (0 < (held_by b).budget) × IfSome (left (source_of a)) (λ _. left (source_of b) ≡ Some []))
          → (IsErrOf {T = A} (Err e) TooMuch → IsFront (held_by b).bytes × ((held_by b).budget ≡ 0))
          → ((tag : _) → IsErrOf {T = A} (Err e) (UnexpectedReply tag) → ⊥)
          → reads (source_of a) ≤ reads (source_of b)
          → ReceiveRefused left reads got faults plan first b e
      refused_first NoMemory fault no_fault write bad end much unexpected rises = no_fault (λ e. cc) ∙ none
      refused_first WriteFault fault no_fault write bad end much unexpected rises = write refl
      refused_first ReadFault fault no_fault write bad end much unexpected rises = let f = fault refl in rw (sym none) (f.0, rises, f.1, f.2)
      refused_first InvalidData fault no_fault write bad end much unexpected rises = (no_fault (λ e. cc) ∙ none, bad refl)
      refused_first UnexpectedEof fault no_fault write bad end much unexpected rises =
          let f = end refl in (no_fault (λ e. cc) ∙ none, f.0, f.1, ended_first (left (source_of first)) (left (source_of a)) (left (source_of b)) taken took f.2)
      refused_first TooMuch fault no_fault write bad end much unexpected rises = let f = much refl in (no_fault (λ e. cc) ∙ none, f.0, f.1)
      refused_first (UnexpectedReply tag) fault no_fault write bad end much unexpected rises = unexpected tag refl
