-- Stanzas that are passed over, and what a call that passes over them comes to.
use Rattle.std.proofs.Common.{◌≡◌, ℕ, suc, ◌+◌, ◌<◌, add-one, Bool, true, false, List, [], ◌∷◌, ◌++◌, length, drop, drop-cons, map, Option, sym, ap, subst, ◌∙◌, append_assoc, ◌⊎◌, inl, inr}
use Rattle.std.specs.Prelude.{◌||◌, slice_index_or, Result, Ok, Err, IsErrAnd}
use Rattle.std.specs.List.{flat_map, list_any, AllByRecursion}
use Rattle.age_format.specs.declared.error.PhaseError.{PhaseError}
use Rattle.age_format.specs.declared.error.PhaseError.TheVariants.{NoMemory, WriteFault, ReadFault, InvalidData, UnexpectedEof, TooMuch, UnexpectedReply}
use Rattle.age_format.specs.Stanza.{Stanza, IsStanza, IsFront, spelling}
use Rattle.age_format.specs.Reading.{IsDone}
use Rattle.age_format.specs.Receiving.{Held, Receives}
use Rattle.age_format.proofs.Stanzas.{the_same_stanza as same_stanza}
use Rattle.age_format.proofs.Receipts.{front_begins_none, receives_unpaid}
use Rattle.age_core.specs.declared.plugin.connection.Connection.{Connection}
use Rattle.age_core.specs.declared.plugin.reply.NoCommand.{NoCommand}
use Rattle.age_core.specs.declared.plugin.reply.NoCommand.TheVariants.{Refused}
use Rattle.age_core.specs.Replies.{is_among, IsCommand, IsPassedOver, ArePassedOver, unsupported_text, StandsNext}
use Rattle.age_core.specs.Exchanges.{Exchanged, ReceiveRefused, PassingRefused, GivesNone}

-- one element is tested, and the others are left
list_any-at : {X : Type 0} (p : List ℕ → Bool) (h : X → List ℕ) (xs : List X) (i : ℕ) (x : X) → i < length xs → x ≡ slice_index_or xs i x
    → list_any p (map h (drop i xs)) ≡ (p (h x) || list_any p (map h (drop (i + 1) xs)))
list_any-at p h xs i x lt e =
    rw add-one (ap (λ ys. list_any p (map h ys)) (drop-cons xs i x lt) ∙ ap (λ y. p (h y) || list_any p (map h (drop (suc i) xs))) (sym e))

module _ {X : Type 0} (p : List ℕ → Bool) (h : X → List ℕ) (xs : List X) (i : ℕ) (x : X) (lt : i < length xs) (e : x ≡ slice_index_or xs i x) where
  pub any_here : p (h x) ≡ true → list_any p (map h (drop i xs)) ≡ true
  any_here is = list_any-at p h xs i x lt e ∙ ap (λ b. b || list_any p (map h (drop (i + 1) xs))) is

  pub any_later : p (h x) ≡ false → list_any p (map h (drop i xs)) ≡ list_any p (map h (drop (i + 1) xs))
  any_later is = list_any-at p h xs i x lt e ∙ ap (λ b. b || list_any p (map h (drop (i + 1) xs))) is

module _ (commands : List (List ℕ)) where
  pub passed_over-push : (ss : List Stanza) (s : Stanza) → ArePassedOver commands ss → IsPassedOver commands s → ArePassedOver commands (ss ++ s ∷ [])
  passed_over-push [] s h k = (k, tt)
  passed_over-push (x ∷ xs) s h k = (h.0, passed_over-push xs s h.1 k)

  front_by : (text : List ℕ) (passed : List Stanza) (last : Stanza) (rest : List ℕ) → text ≡ flat_map spelling passed ++ (spelling last ++ rest) → AllByRecursion IsStanza passed → IsStanza last → IsFront text → ⊥
  front_by text [] last rest e each is front = front_begins_none text front last rest is e
  front_by text (s ∷ ss) last rest e each is front =
      front_begins_none text front s (flat_map spelling ss ++ (spelling last ++ rest)) each.0 (e ∙ append_assoc (spelling s) (flat_map spelling ss) (spelling last ++ rest))

  -- a text in which a call's end stands is no front
  pub next_no_front : (text : List ℕ) → StandsNext commands text → IsFront text → ⊥
  next_no_front text stands front = front_by text stands.passed stands.last stands.rest stands.whole stands.each stands.last_is_stanza front

  -- what is passed over ends no call
  pub ends_not : (s last : Stanza) → s ≡ last → IsPassedOver commands s → IsDone last ⊎ IsCommand commands last → ⊥
  ends_not s last e over (inl done) = over.0 (ap (λ (x : Stanza). x.tag) e ∙ done)
  ends_not s last e over (inr command) =
      let f : is_among commands last ≡ false = subst (λ (x : Stanza). is_among commands x ≡ false) e over.1 in
      let t : is_among commands last ≡ true = command.1 in
      absurd cc

  -- behind a stanza that is passed over it stands still
  behind_by : (text more : List ℕ) (s : Stanza) (passed : List Stanza) (last : Stanza) (rest : List ℕ) → text ≡ spelling s ++ more → IsStanza s → IsPassedOver commands s
      → text ≡ flat_map spelling passed ++ (spelling last ++ rest) → AllByRecursion IsStanza passed → ArePassedOver commands passed → IsStanza last → IsDone last ⊎ IsCommand commands last → StandsNext commands more
  behind_by text more s [] last rest is stanza over e each passed_over last_is ends =
      absurd (ends_not s last (same_stanza s last more rest stanza last_is (sym is ∙ e)).0 over ends)
  behind_by text more s (t ∷ ts) last rest is stanza over e each passed_over last_is ends =
      let others : List ℕ = flat_map spelling ts ++ (spelling last ++ rest) in
      let first = same_stanza s t more others stanza each.0 (sym is ∙ (e ∙ append_assoc (spelling t) (flat_map spelling ts) (spelling last ++ rest))) in
      record { passed = ts; last = last; rest = rest; whole = first.1; each = each.1; passed_over = passed_over.1; last_is_stanza = last_is; last_ends = ends }

  pub next_behind : (text more : List ℕ) (s : Stanza) → text ≡ spelling s ++ more → IsStanza s → IsPassedOver commands s → StandsNext commands text → StandsNext commands more
  next_behind text more s is stanza over stands = behind_by text more s stands.passed stands.last stands.rest is stanza over stands.whole stands.each stands.passed_over stands.last_is_stanza stands.last_ends

  -- where a call's end was held first, nothing was read, and it is held
  abbrev pub StillNext : {S : Type 0} → Held → Held → S → S → Type 0
  StillNext first now old new = StandsNext commands first.bytes → (new ≡ old) × StandsNext commands now.bytes

  -- then the next receiving reads nothing
  pub next_unread : {S : Type 0} (first a : Held) (old mid new : S) → StillNext first a old mid → ((IsFront a.bytes → ⊥) → new ≡ mid) → StandsNext commands first.bytes → new ≡ old
  next_unread first a old mid new still unread stands =
      let held = still stands in
      unread (next_no_front a.bytes held.1) ∙ held.0

  -- where nothing is received, it stands as it was
  pub next_same : {S : Type 0} (first a b : Held) (old mid new : S) → b ≡ a → new ≡ mid → StillNext first a old mid → StillNext first b old new
  next_same first a b old mid new e f h stands = let held = h stands in (f ∙ held.0, subst (λ (x : Held). StandsNext commands x.bytes) (sym e) held.1)

  pub next_more : {S : Type 0} (first a b : Held) (old mid new : S) (l m : Option (List ℕ)) (s : Stanza) → StillNext first a old mid → ((IsFront a.bytes → ⊥) → new ≡ mid)
      → ((IsFront a.bytes → ⊥) → b.budget ≡ a.budget) → Receives a b l m (s ∷ []) → IsPassedOver commands s → StillNext first b old new
  next_more first a b old mid new l m s still unread unpaid r over stands =
      let held = still stands in
      let no_front = next_no_front a.bytes held.1 in
      (unread no_front ∙ held.0, next_behind a.bytes b.bytes s (receives_unpaid a b l m s r (unpaid no_front)) r.each.0 over held.1)

module _ {R W : Type 0} (left : R → Option (List ℕ)) (reads : R → ℕ) (got : W → Option (List ℕ)) (faults : W → ℕ) (plan : W → List ℕ) (first b : Connection R W) (commands : List (List ℕ)) where
  -- receiving was refused behind stanzas that were passed over
  pub passing_refused : (ss : List Stanza) → ArePassedOver commands ss → Exchanged left reads got faults plan first b ss (unsupported_text ss)
      → (e : PhaseError) → ReceiveRefused left reads got faults plan first b e → PassingRefused left reads got faults plan first b commands e
  passing_refused ss over h NoMemory refused = record { passed = ss; exchanged = h; passed_over = over; refused = refused }
  passing_refused ss over h WriteFault refused = absurd refused
  passing_refused ss over h (UnexpectedReply tag) refused = absurd refused
  passing_refused ss over h ReadFault refused = record { passed = ss; exchanged = h; passed_over = over; refused = refused }
  passing_refused ss over h InvalidData refused = record { passed = ss; exchanged = h; passed_over = over; refused = refused }
  passing_refused ss over h UnexpectedEof refused = record { passed = ss; exchanged = h; passed_over = over; refused = refused }
  passing_refused ss over h TooMuch refused = record { passed = ss; exchanged = h; passed_over = over; refused = refused }

  pub gives_none : {A : Type 0} (r : Result A NoCommand) (e : PhaseError) → IsErrAnd r (λ x. x ≡ Refused e) → PassingRefused left reads got faults plan first b commands e
      → GivesNone left reads got faults plan first b commands r
  gives_none (Ok x) e is h = absurd is
  gives_none {A} (Err x) e is h = subst (λ (y : NoCommand). GivesNone left reads got faults plan first b commands {A = A} (Err y)) (sym is) h
