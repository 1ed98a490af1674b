-- A handler's replies, and what a phase of them comes to.
use Rattle.std.proofs.Common.{◌≡◌, ◌≢◌, ℕ, Bool, true, false, List, [], ◌∷◌, ◌++◌, map, Option, refl, sym, subst, ◌∙◌}
use Rattle.std.specs.Prelude.{codes, MatchBool, Result, Ok, Err, IfErr, IsErrAnd}
use Rattle.std.specs.List.{flat_map, AllByRecursion}
use Rattle.age_format.specs.declared.format.Stanza.{Stanza as Held-Stanza}
use Rattle.age_format.specs.declared.error.PhaseError.{PhaseError}
use Rattle.age_format.specs.declared.error.PhaseError.TheVariants.{NoMemory, WriteFault, ReadFault, InvalidData, UnexpectedEof, TooMuch, UnexpectedReply}
use Rattle.age_format.specs.Stanza.{Stanza, stanza_of, spelling}
use Rattle.age_format.specs.Reading.{NoneDone, StandsBeforeDone}
use Rattle.age_format.specs.Receiving.{Held}
use Rattle.age_format.proofs.Receipts.{StillHeld}
use Rattle.age_core.specs.declared.plugin.connection.Connection.{Connection}
use Rattle.age_core.specs.declared.plugin.bidir.Answer.{Answer}
use Rattle.age_core.specs.Phases.{Calls}
use Rattle.age_core.specs.Replies.{is_among, reply_of, unsupported_reply, IsCommand, IsReply, AreReplies, MayAnswer, MayAnswerAt}
use Rattle.age_core.specs.Exchanges.{Exchanged, ReceiveRefused, PhaseRefused}

-- a test that came out so chooses
pub match_true : (b : Bool) (P Q : Type 0) → b ≡ true → P → MatchBool b P Q
match_true true P Q e p = p
match_true false P Q e p = absurd cc

pub match_false : (b : Bool) (P Q : Type 0) → b ≡ false → Q → MatchBool b P Q
match_false true P Q e q = absurd cc
match_false false P Q e q = q

-- where nothing is received, a whole phase is held as it was
pub held_same : {S : Type 0} (first a b : Held) (old mid new : S) → b ≡ a → new ≡ mid → StillHeld first a old mid → StillHeld first b old new
held_same first a b old mid new e f h stanzas stands =
    let held = h stanzas stands in (f ∙ held.0, held.1, subst (λ (x : Held). StandsBeforeDone x.bytes held.1) (sym e) held.2)

-- a refusal that is passed on
pub if_err_at : {A E : Type 0} (P : E → Type 0) (r : Result A E) (e : E) → IsErrAnd r (λ x. x ≡ e) → P e → IfErr r P
if_err_at P (Ok x) e is h = absurd is
if_err_at P (Err x) e is h = subst P (sym is) h

module _ {F : Type 0} (takes : F → Held-Stanza → Type 0) (step : F → Held-Stanza → Answer → F → Type 0) (commands : List (List ℕ)) where
  -- one reply more
  pub replies_more : (f : F) (ss : List Held-Stanza) (rs : List Stanza) (last : F) (s : Held-Stanza) (r : Stanza) (next : F)
      → AreReplies step commands f ss rs last → IsReply step commands last s r next → AreReplies step commands f (ss ++ s ∷ []) (rs ++ r ∷ []) next
  replies_more f [] [] last s r next h k = (next, subst (λ (x : F). IsReply step commands x s r next) (sym h) k, refl)
  replies_more f [] (q ∷ qs) last s r next h k = absurd h
  replies_more f (t ∷ ts) [] last s r next h k = absurd h
  replies_more f (t ∷ ts) (q ∷ qs) last s r next h k = (h.0, h.1, replies_more h.0 ts qs last s r next h.2 k)

  -- a handler was called at commands alone
  pub record Called (f last : F) : Type 0 where
    pub taken : List Held-Stanza
    pub answers : List Answer
    pub calls : Calls step f taken answers last
    pub commands_all : AllByRecursion (λ t. IsCommand commands (stanza_of t)) taken

  called_more : (f next last : F) (s : Held-Stanza) (r : Stanza) (b : Bool) → is_among commands (stanza_of s) ≡ b → (stanza_of s).tag ≢ codes "done"
      → MatchBool b ((given : Answer) × step f s given next × (r ≡ reply_of given)) ((r ≡ unsupported_reply) × (next ≡ f)) → Called next last → Called f last
  called_more f next last s r true e not_done h more = record {
    taken = s ∷ more.taken;
    answers = h.0 ∷ more.answers;
    calls = (next, h.1, more.calls);
    commands_all = ((not_done, e), more.commands_all);
  }
  called_more f next last s r false e not_done h more = subst (λ (x : F). Called x last) h.1 more

  pub called : (f : F) (ss : List Held-Stanza) (rs : List Stanza) (last : F) → AreReplies step commands f ss rs last → NoneDone (map stanza_of ss) → Called f last
  called f [] [] last h none = record { taken = []; answers = []; calls = h; commands_all = tt }
  called f [] (q ∷ qs) last h none = absurd h
  called f (t ∷ ts) [] last h none = absurd h
  called f (t ∷ ts) (q ∷ qs) last h none =
      called_more f h.0 last t q (is_among commands (stanza_of t)) refl none.0 h.1 (called h.0 ts qs last h.2 none.1)

  -- so it may be called at one command more
  pub may_answer : (f : F) (ss : List Held-Stanza) (rs : List Stanza) (last : F) (s : Held-Stanza) → MayAnswer takes step commands f
      → AreReplies step commands f ss rs last → NoneDone (map stanza_of ss) → (stanza_of s).tag ≢ codes "done" → is_among commands (stanza_of s) ≡ true → MayAnswerAt takes step last s
  may_answer f ss rs last s may h none not_done among =
      let calls = called f ss rs last h none in
      may calls.taken calls.answers last s calls.calls ((not_done, among), calls.commands_all)

module _ {R W : Type 0} (left : R → Option (List ℕ)) (reads : R → ℕ) (got : W → Option (List ℕ)) (faults : W → ℕ) (plan : W → List ℕ) (first b : Connection R W) {F : Type 0} (step : F → Held-Stanza → Answer → F → Type 0) (commands : List (List ℕ)) (handler : F) where
  -- receiving was refused behind stanzas that had their replies
  pub phase_refused : (ss : List Held-Stanza) (rs : List Stanza) (last : F) → NoneDone (map stanza_of ss) → AreReplies step commands handler ss rs last
      → Exchanged left reads got faults plan first b (map stanza_of ss) (flat_map spelling rs)
      → (e : PhaseError) → ReceiveRefused left reads got faults plan first b e → PhaseRefused left reads got faults plan first b step commands handler e
  phase_refused ss rs last none replied h NoMemory refused = record { stanzas = ss; replies = rs; after = last; none_done = none; replied = replied; exchanged = h; refused = refused }
  phase_refused ss rs last none replied h WriteFault refused = absurd refused
  phase_refused ss rs last none replied h (UnexpectedReply tag) refused = absurd refused
  phase_refused ss rs last none replied h ReadFault refused = record { stanzas = ss; replies = rs; after = last; none_done = none; replied = replied; exchanged = h; refused = refused }
  phase_refused ss rs last none replied h InvalidData refused = record { stanzas = ss; replies = rs; after = last; none_done = none; replied = replied; exchanged = h; refused = refused }
  phase_refused ss rs last none replied h UnexpectedEof refused = record { stanzas = ss; replies = rs; after = last; none_done = none; replied = replied; exchanged = h; refused = refused }
  phase_refused ss rs last none replied h TooMuch refused = record { stanzas = ss; replies = rs; after = last; none_done = none; replied = replied; exchanged = h; refused = refused }
