-- Runs of sending and hearing, joined one after another.
use Rattle.std.proofs.Common.{◌≡◌, ◌≢◌, ℕ, ◌+◌, ◌<◌, ◌≤◌, true, false, List, [], ◌∷◌, ◌++◌, length, Option, Some, None, refl, sym, ap, subst, ◌∙◌, append_assoc, ◌⊎◌, inl, inr, arith}
use Rattle.std.specs.Prelude.{IfSome, IsSome, Result, Ok, Err, IsErrOf, IsErrAnd}
use Rattle.std.specs.List.{flat_map, AllByRecursion}
use Rattle.std.specs.Option.{option_to_list}
use Rattle.std.specs.Str.{bytes_eq}
use Rattle.std.proofs.lemmas.Slice.Eq.{bytes_eq-Decides}
use Rattle.std.proofs.lemmas.List.{append-nil, length-append}
use Rattle.std.proofs.lemmas.List.Concat.{flat_map-append}
use Rattle.rand_core.specs.Stream.{Stream}
use Rattle.age_format.specs.declared.error.PhaseError.{PhaseError}
use Rattle.age_format.specs.declared.error.PhaseError.TheVariants.{NoMemory, WriteFault, ReadFault, InvalidData, UnexpectedEof, TooMuch, UnexpectedReply}
use Rattle.age_format.specs.declared.format.Stanza.{Stanza as Held-Stanza}
use Rattle.age_format.specs.Outside.{Rose, Wrote, WroteLess}
use Rattle.age_format.specs.Stanza.{Stanza, IsStanza, IsFront, spelling}
use Rattle.age_format.specs.Front.{IsMalformed}
use Rattle.age_format.specs.Receiving.{Held, Took, Receives}
use Rattle.age_format.proofs.Stanzas.{the_same_stanza as same_stanza}
use Rattle.age_format.proofs.Receipts.{Little, front_begins_none, receives_both}
use Rattle.age_send.specs.Sending.{first_roll, second_roll}
use Rattle.age_send.proofs.Writing.{wrote_then}
use Rattle.age_core.specs.declared.plugin.Error.{Error}
use Rattle.age_core.specs.declared.plugin.connection.Connection.{Connection}
use Rattle.age_core.specs.Connecting.{source_of, sink_of, held_by}
use Rattle.age_core.specs.Exchanges.{Exchanged, Interrupted, ReadLittle, ReceiveRefused}
use Rattle.age_core.specs.Asking.{Conversed, FailsToSend, IsUnanswered, RanOut, StopsBehind, Stops, Hears, Asks, HoldsReplies, NoneRead, grease_of, due, stands_behind}
use Rattle.age_core.proofs.Exchanges.{ended_first, exchanged_none, exchanged_received, exchanged_wrote, interrupted, little_none, little_received, little_wrote, refused_first}

-- which tag a reply has
pub tag_is : (tag word : List ℕ) → bytes_eq tag word ≡ true → tag ≡ word
tag_is tag word t = (bytes_eq-Decides tag word).0 t

pub tag_is_not : (tag word : List ℕ) → bytes_eq tag word ≡ false → tag ≢ word
tag_is_not tag word f e = let t = (bytes_eq-Decides tag word).1 e in absurd cc

-- the second roll is drawn behind what the first one made
pub stands_second : (stream : Stream) (made : Option Stanza) → (first_roll stream).0 ≡ made → (more : List Stanza) → stands_behind stream (option_to_list made ++ more) ≡ (second_roll stream).1
stands_second stream None is [] =
    subst (λ (o : Option Stanza). elim o [ None ↦ (second_roll stream).1 | Some grease ↦ (first_roll stream).1 ] ≡ (second_roll stream).1) (sym is) refl
stands_second stream None is (s ∷ ss) = refl
stands_second stream (Some x) is more = refl

-- where the first roll's grease is under way, it is not
pub stands_first : (stream : Stream) (made : Option Stanza) → (first_roll stream).0 ≡ made → IsSome made → stands_behind stream [] ≡ (first_roll stream).1
stands_first stream None is some = absurd cc
stands_first stream (Some x) is some =
    subst (λ (o : Option Stanza). elim o [ None ↦ (second_roll stream).1 | Some grease ↦ (first_roll stream).1 ] ≡ (first_roll stream).1) (sym is) refl

-- ---- what is held

-- a text that begins with these stanzas, and is stanzas and a rest: the others, and the rest, stand behind these
behind_these : (rs xs : List Stanza) (text rest : List ℕ) (n : ℕ) → flat_map spelling xs ++ rest ≡ flat_map spelling rs ++ text → AllByRecursion IsStanza rs → AllByRecursion IsStanza xs
    → length xs ≡ length rs + n → (ys : List Stanza) × (xs ≡ rs ++ ys) × (text ≡ flat_map spelling ys ++ rest) × AllByRecursion IsStanza ys × (length ys ≡ n)
behind_these [] xs text rest n e each all count = (xs, refl, sym e, all, omega (arith, count))
behind_these (r ∷ rs) [] text rest n e each all count = absurd (omega (arith, count))
behind_these (r ∷ rs) (x ∷ xs) text rest n e each all count =
    let same = same_stanza x r (flat_map spelling xs ++ rest) (flat_map spelling rs ++ text) all.0 each.0
    (sym (append_assoc (spelling x) (flat_map spelling xs) rest) ∙ (e ∙ append_assoc (spelling r) (flat_map spelling rs) text)) in
    let others = behind_these rs xs text rest n same.1 each.1 all.1 (omega (arith, count)) in
    (others.0, cc (same.0, others.1), others.2, others.3, others.4)

-- what stands at the front of a text stands there however it goes on
replies_parted : (asked more rs : List Stanza) (text now taken : List ℕ) → text ++ taken ≡ flat_map spelling rs ++ now → AllByRecursion IsStanza rs → length rs ≡ length asked
    → HoldsReplies (asked ++ more) text → HoldsReplies asked text × HoldsReplies more now
replies_parted asked more rs text now taken e each count h =
    let joined : flat_map spelling h.replies ++ (h.rest ++ taken) ≡ flat_map spelling rs ++ now =
    sym (append_assoc (flat_map spelling h.replies) h.rest taken) ∙ (ap (λ (t : List ℕ). t ++ taken) (sym h.whole) ∙ e) in
    let p = h.one_each in
    let q : length h.replies ≡ length rs + length more = omega (arith, p, count, length-append asked more) in
    let cut = behind_these rs h.replies now (h.rest ++ taken) (length more) joined each h.each q in (
      record {
        replies = rs;
        rest = flat_map spelling cut.0 ++ h.rest;
        whole = h.whole ∙ (ap (λ (x : List Stanza). flat_map spelling x ++ h.rest) cut.1 ∙ (ap (λ (t : List ℕ). t ++ h.rest) (flat_map-append spelling rs cut.0) ∙ append_assoc (flat_map spelling rs) (flat_map spelling cut.0) h.rest));
        each = each;
        one_each = count;
      },
      record { replies = cut.0; rest = h.rest ++ taken; whole = cut.2; each = cut.3; one_each = cut.4 },
    )

no_front_by : (s : Stanza) (text : List ℕ) (replies : List Stanza) (rest : List ℕ) → text ≡ flat_map spelling replies ++ rest → AllByRecursion IsStanza replies → length replies ≡ length (s ∷ []) → IsFront text → ⊥
no_front_by s text [] rest e each count front = absurd (omega (arith, count))
no_front_by s text (x ∷ xs) rest e each count front = front_begins_none text front x (flat_map spelling xs ++ rest) each.0 (e ∙ append_assoc (spelling x) (flat_map spelling xs) rest)

-- a text at whose front a reply stands is no front
reply_no_front : (s : Stanza) (text : List ℕ) → HoldsReplies (s ∷ []) text → IsFront text → ⊥
reply_no_front s text h front = no_front_by s text h.replies h.rest h.whole h.each h.one_each front

module _ {R W : Type 0} (left : R → Option (List ℕ)) (reads : R → ℕ) (got : W → Option (List ℕ)) (faults : W → ℕ) (plan : W → List ℕ) where
  module _ (a b c : Connection R W) where
    -- where replies to all were held, nothing was read for either part
    unread_both : (asked more rs : List Stanza) (l m : Option (List ℕ)) → Receives (held_by a) (held_by b) l m rs → length rs ≡ length asked
        → NoneRead a b asked → NoneRead b c more → NoneRead a c (asked ++ more)
    unread_both asked more rs l m r count h k holds =
        let parts = replies_parted asked more rs (held_by a).bytes (held_by b).bytes r.taken r.whole r.each count holds in
        k parts.1 ∙ h parts.0

    few_after : (l m : Option (List ℕ)) (ss : List Stanza) → Receives (held_by b) (held_by c) l m ss → (held_by c).budget ≡ (held_by b).budget → length (held_by c).bytes ≤ length (held_by b).bytes
    few_after l m ss r same =
        let p = r.paid in
        let whole : length (held_by b).bytes + length r.taken ≡ length (flat_map spelling ss) + length (held_by c).bytes =
        sym (length-append (held_by b).bytes r.taken) ∙ (ap length r.whole ∙ length-append (flat_map spelling ss) (held_by c).bytes) in
        omega (arith, p, same, whole)

    little_by : (l m : Option (List ℕ)) (ss : List Stanza) → Receives (held_by b) (held_by c) l m ss
        → ((source_of b ≡ source_of a) × ((held_by b).budget ≡ (held_by a).budget)) ⊎ (length (held_by b).bytes ≤ 4095)
        → ((source_of c ≡ source_of b) × ((held_by c).budget ≡ (held_by b).budget)) ⊎ (length (held_by c).bytes ≤ 4095)
        → ((source_of c ≡ source_of a) × ((held_by c).budget ≡ (held_by a).budget)) ⊎ (length (held_by c).bytes ≤ 4095)
    little_by l m ss r h (inr few) = inr few
    little_by l m ss r (inl same) (inl more) = inl (more.0 ∙ same.0, more.1 ∙ same.1)
    little_by l m ss r (inr few) (inl more) = inr (omega (arith, few, few_after l m ss r more.1))

    pub little_both : (ss : List Stanza) → Receives (held_by b) (held_by c) (left (source_of b)) (left (source_of c)) ss
        → ReadLittle left reads got faults plan a b → ReadLittle left reads got faults plan b c → ReadLittle left reads got faults plan a c
    little_both ss r h k = record { no_fault = k.no_fault ∙ h.no_fault; little = little_by (left (source_of b)) (left (source_of c)) ss r h.little k.little }

    pub exchanged_both : (ss us : List Stanza) (t v : List ℕ) → Exchanged left reads got faults plan a b ss t → Exchanged left reads got faults plan b c us v
        → Exchanged left reads got faults plan a c (ss ++ us) (t ++ v)
    exchanged_both ss us t v h k = record {
      received = receives_both (held_by a) (held_by b) (held_by c) (left (source_of a)) (left (source_of b)) (left (source_of c)) ss us h.received k.received;
      wrote = wrote_then got faults plan (sink_of a) (sink_of b) (sink_of c) t v h.wrote k.wrote;
    }

    interrupted_after : (ss us : List Stanza) (t v piece : List ℕ) → Exchanged left reads got faults plan a b ss t → Interrupted left reads got faults plan b c us v piece
        → Interrupted left reads got faults plan a c (ss ++ us) (t ++ v) piece
    interrupted_after ss us t v piece h k = record {
      received = receives_both (held_by a) (held_by b) (held_by c) (left (source_of a)) (left (source_of b)) (left (source_of c)) ss us h.received k.received;
      between = k.between;
      wrote = wrote_then got faults plan (sink_of a) (sink_of b) k.between t v h.wrote k.wrote;
      wrote_less = k.wrote_less;
    }

    refused_after : reads (source_of b) ≡ reads (source_of a) → (taken : List ℕ) → Took (left (source_of a)) (left (source_of b)) taken
        → (e : PhaseError) → ReceiveRefused left reads got faults plan b c e → ReceiveRefused left reads got faults plan a c e
    refused_after none taken took NoMemory h = h ∙ none
    refused_after none taken took WriteFault h = absurd h
    refused_after none taken took ReadFault h = rw (sym none) h
    refused_after none taken took InvalidData h = (h.0 ∙ none, h.1)
    refused_after none taken took UnexpectedEof h = (h.0 ∙ none, h.1, h.2, ended_first (left (source_of a)) (left (source_of b)) (left (source_of c)) taken took h.3)
    refused_after none taken took TooMuch h = (h.0 ∙ none, h.1, h.2)
    refused_after none taken took (UnexpectedReply tag) h = absurd h

    both_lengths : (l m rs qs : List Stanza) → length rs ≡ length l → length qs ≡ length m → length (rs ++ qs) ≡ length (l ++ m)
    both_lengths l m rs qs h k = omega (arith, h, k, length-append rs qs, length-append l m)

    pub conversed_both : (l m rs qs : List Stanza) → Conversed left reads got faults plan a b l rs → Conversed left reads got faults plan b c m qs
        → Conversed left reads got faults plan a c (l ++ m) (rs ++ qs)
    conversed_both l m rs qs h k = record {
      one_each = both_lengths l m rs qs h.one_each k.one_each;
      exchanged = subst (λ (t : List ℕ). Exchanged left reads got faults plan a c (rs ++ qs) t) (sym (flat_map-append spelling l m))
          (exchanged_both rs qs (flat_map spelling l) (flat_map spelling m) h.exchanged k.exchanged);
      little = little_both qs k.exchanged.received h.little k.little;
      unread = unread_both l m rs (left (source_of a)) (left (source_of b)) h.exchanged.received h.one_each h.unread k.unread;
    }

    module _ (l rs : List Stanza) (h : Conversed left reads got faults plan a b l rs) where
      ordered : (due answered later : List Stanza) (at : Stanza) → due ≡ answered ++ at ∷ later → l ++ due ≡ (l ++ answered) ++ at ∷ later
      ordered due answered later at e = ap (λ (x : List Stanza). l ++ x) e ∙ sym (append_assoc l answered (at ∷ later))

      unanswered_after : (due answered : List Stanza) (e : PhaseError) → IsUnanswered left reads got faults plan b c due answered e → IsUnanswered left reads got faults plan a c (l ++ due) (l ++ answered) e
      unanswered_after due answered e k = record {
        at = k.at;
        later = k.later;
        in_order = ordered due answered k.later k.at k.in_order;
        replies = rs ++ k.replies;
        one_each = both_lengths l answered rs k.replies h.one_each k.one_each;
        exchanged = subst (λ (t : List ℕ). Exchanged left reads got faults plan a c (rs ++ k.replies) t)
            (sym (flat_map-append spelling l (answered ++ k.at ∷ [])) ∙ ap (flat_map spelling) (sym (append_assoc l answered (k.at ∷ []))))
            (exchanged_both rs k.replies (flat_map spelling l) (flat_map spelling (answered ++ k.at ∷ [])) h.exchanged k.exchanged);
        unread = subst (NoneRead a c) (sym (append_assoc l answered (k.at ∷ [])))
            (unread_both l (answered ++ k.at ∷ []) rs (left (source_of a)) (left (source_of b)) h.exchanged.received h.one_each h.unread k.unread);
        refused = refused_after h.little.no_fault h.exchanged.received.taken h.exchanged.received.told e k.refused;
      }

      failed_after : (due answered : List Stanza) → FailsToSend left reads got faults plan b c due answered → FailsToSend left reads got faults plan a c (l ++ due) (l ++ answered)
      failed_after due answered k = record {
        at = k.at;
        later = k.later;
        in_order = ordered due answered k.later k.at k.in_order;
        replies = rs ++ k.replies;
        one_each = both_lengths l answered rs k.replies h.one_each k.one_each;
        interrupted = subst (λ (t : List ℕ). Interrupted left reads got faults plan a c (rs ++ k.replies) t (spelling k.at)) (sym (flat_map-append spelling l answered))
            (interrupted_after rs k.replies (flat_map spelling l) (flat_map spelling answered) (spelling k.at) h.exchanged k.interrupted);
        little = little_both k.replies k.interrupted.received h.little k.little;
        unread = unread_both l answered rs (left (source_of a)) (left (source_of b)) h.exchanged.received h.one_each h.unread k.unread;
      }

      ran_out_after : (due answered : List Stanza) → RanOut left reads got faults plan b c due answered → RanOut left reads got faults plan a c (l ++ due) (l ++ answered)
      ran_out_after due answered k = record {
        at = k.at;
        later = k.later;
        in_order = ordered due answered k.later k.at k.in_order;
        replies = rs ++ k.replies;
        conversed = conversed_both l answered rs k.replies h k.conversed;
      }

      -- a stop behind what was sent and heard
      pub stops_after : (drawn sent awaited answered : List Stanza) (e : PhaseError) → StopsBehind left reads got faults plan b c drawn sent awaited answered e
          → StopsBehind left reads got faults plan a c (l ++ drawn) (l ++ sent) (l ++ awaited) (l ++ answered) e
      stops_after drawn sent awaited answered NoMemory (inl k) = inl (ran_out_after drawn answered k)
      stops_after drawn sent awaited answered NoMemory (inr k) = inr (unanswered_after awaited answered NoMemory k)
      stops_after drawn sent awaited answered WriteFault k = failed_after sent answered k
      stops_after drawn sent awaited answered ReadFault k = unanswered_after awaited answered ReadFault k
      stops_after drawn sent awaited answered InvalidData k = unanswered_after awaited answered InvalidData k
      stops_after drawn sent awaited answered UnexpectedEof k = unanswered_after awaited answered UnexpectedEof k
      stops_after drawn sent awaited answered TooMuch k = unanswered_after awaited answered TooMuch k
      stops_after drawn sent awaited answered (UnexpectedReply tag) k = absurd k

  module _ (a c : Connection R W) where
    longer : (due answered later more : List Stanza) (at : Stanza) → due ≡ answered ++ at ∷ later → due ++ more ≡ answered ++ at ∷ (later ++ more)
    longer due answered later more at e = ap (λ (x : List Stanza). x ++ more) e ∙ append_assoc answered (at ∷ later) more

    unanswered_longer : (due more answered : List Stanza) (e : PhaseError) → IsUnanswered left reads got faults plan a c due answered e → IsUnanswered left reads got faults plan a c (due ++ more) answered e
    unanswered_longer due more answered e k = record {
      at = k.at;
      later = k.later ++ more;
      in_order = longer due answered k.later more k.at k.in_order;
      replies = k.replies;
      one_each = k.one_each;
      exchanged = k.exchanged;
      unread = k.unread;
      refused = k.refused;
    }

    -- a stop where more is due later
    pub stops_longer : (drawn sent awaited answered x y z : List Stanza) (e : PhaseError) → StopsBehind left reads got faults plan a c drawn sent awaited answered e
        → StopsBehind left reads got faults plan a c (drawn ++ x) (sent ++ y) (awaited ++ z) answered e
    stops_longer drawn sent awaited answered x y z NoMemory (inl k) =
        inl (record { at = k.at; later = k.later ++ x; in_order = longer drawn answered k.later x k.at k.in_order; replies = k.replies; conversed = k.conversed })
    stops_longer drawn sent awaited answered x y z NoMemory (inr k) = inr (unanswered_longer awaited z answered NoMemory k)
    stops_longer drawn sent awaited answered x y z WriteFault k = record {
      at = k.at;
      later = k.later ++ y;
      in_order = longer sent answered k.later y k.at k.in_order;
      replies = k.replies;
      one_each = k.one_each;
      interrupted = k.interrupted;
      little = k.little;
      unread = k.unread;
    }
    stops_longer drawn sent awaited answered x y z ReadFault k = unanswered_longer awaited z answered ReadFault k
    stops_longer drawn sent awaited answered x y z InvalidData k = unanswered_longer awaited z answered InvalidData k
    stops_longer drawn sent awaited answered x y z UnexpectedEof k = unanswered_longer awaited z answered UnexpectedEof k
    stops_longer drawn sent awaited answered x y z TooMuch k = unanswered_longer awaited z answered TooMuch k
    stops_longer drawn sent awaited answered x y z (UnexpectedReply tag) k = absurd k

    -- a stop in the grease, where a stanza is due behind it
    pub stops_later : (grease answered y z : List Stanza) (e : PhaseError) → StopsBehind left reads got faults plan a c grease grease grease answered e
        → StopsBehind left reads got faults plan a c grease (grease ++ y) (grease ++ z) answered e
    stops_later grease answered y z e k =
        subst (λ (d : List Stanza). StopsBehind left reads got faults plan a c d (grease ++ y) (grease ++ z) answered e) (append-nil grease) (stops_longer grease grease grease answered [] y z e k)

    -- the same where no reply to that stanza is awaited
    pub stops_sent : (grease answered y : List Stanza) (e : PhaseError) → StopsBehind left reads got faults plan a c grease grease grease answered e
        → StopsBehind left reads got faults plan a c grease (grease ++ y) grease answered e
    stops_sent grease answered y e k =
        subst (λ (d : List Stanza). StopsBehind left reads got faults plan a c grease (grease ++ y) d answered e) (append-nil grease) (stops_later grease answered y [] e k)

  module _ (a b c : Connection R W) (l rs : List Stanza) (h : Conversed left reads got faults plan a b l rs) where
    -- a stop right behind what was sent and heard
    pub stops_front : (y z : List Stanza) (e : PhaseError) → StopsBehind left reads got faults plan b c [] y z [] e → StopsBehind left reads got faults plan a c l (l ++ y) (l ++ z) l e
    stops_front y z e k =
        subst (λ (d : List Stanza). StopsBehind left reads got faults plan a c d (l ++ y) (l ++ z) d e) (append-nil l) (stops_after a b c l rs h [] y z [] e k)

    pub failed_behind : (y : List Stanza) → FailsToSend left reads got faults plan b c y [] → FailsToSend left reads got faults plan a c (l ++ y) l
    failed_behind y k = subst (λ (d : List Stanza). FailsToSend left reads got faults plan a c (l ++ y) d) (append-nil l) (failed_after a b c l rs h y [] k)

  -- ---- one stanza, and its reply

  module _ (a b : Connection R W) (s : Stanza) (same : source_of b ≡ source_of a) (held : held_by b ≡ held_by a) where
    -- the sink failed in it
    pub fails_alone : WroteLess got faults plan (sink_of a) (sink_of b) (spelling s) → FailsToSend left reads got faults plan a b (s ∷ []) []
    fails_alone part = record {
      at = s;
      later = [];
      in_order = refl;
      replies = [];
      one_each = refl;
      interrupted = interrupted left reads got faults plan a a b same held [] [] (spelling s) (exchanged_none left reads got faults plan a) part;
      little = little_wrote left reads got faults plan a a b same held (little_none left reads got faults plan a);
      unread = λ _. same;
    }

    module _ (wrote : Wrote got faults plan (sink_of a) (sink_of b) (spelling s)) (c : Connection R W) (sink : sink_of c ≡ sink_of b) (unread : (IsFront (held_by b).bytes → ⊥) → source_of c ≡ source_of b) where
      sent_alone : Exchanged left reads got faults plan a b [] (spelling s)
      sent_alone = exchanged_wrote left reads got faults plan a a b same held [] [] (spelling s) (exchanged_none left reads got faults plan a) wrote

      little_alone : ReadLittle left reads got faults plan a b
      little_alone = little_wrote left reads got faults plan a a b same held (little_none left reads got faults plan a)

      unread_alone : NoneRead a c (s ∷ [])
      unread_alone holds = unread (λ front. reply_no_front s (held_by a).bytes holds (subst (λ (h : Held). IsFront h.bytes) held front)) ∙ same

      -- the reply came
      pub heard_alone : (reply : Stanza) → Receives (held_by b) (held_by c) (left (source_of b)) (left (source_of c)) (reply ∷ []) → Little (held_by b) (held_by c) (source_of b) (source_of c)
          → reads (source_of c) ≡ reads (source_of b) → Conversed left reads got faults plan a c (s ∷ []) (reply ∷ [])
      heard_alone reply given more none = record {
        one_each = refl;
        exchanged = subst (λ (t : List ℕ). Exchanged left reads got faults plan a c (reply ∷ []) t) (sym (append-nil (spelling s)))
            (exchanged_received left reads got faults plan a b c [] (reply ∷ []) (spelling s) sent_alone given sink);
        little = little_received left reads got faults plan a b c reply little_alone given more none;
        unread = unread_alone;
      }

      -- receiving it was refused
      unheard : (e : PhaseError) → Receives (held_by b) (held_by c) (left (source_of b)) (left (source_of c)) [] → ReceiveRefused left reads got faults plan a c e → IsUnanswered left reads got faults plan a c (s ∷ []) [] e
      unheard e kept refused = record {
        at = s;
        later = [];
        in_order = refl;
        replies = [];
        one_each = refl;
        exchanged = subst (λ (t : List ℕ). Exchanged left reads got faults plan a c [] t) (sym (append-nil (spelling s)))
            (exchanged_received left reads got faults plan a b c [] [] (spelling s) sent_alone kept sink);
        unread = unread_alone;
        refused = refused;
      }

      stops_unheard : (e : PhaseError) → Receives (held_by b) (held_by c) (left (source_of b)) (left (source_of c)) [] → ReceiveRefused left reads got faults plan a c e
          → StopsBehind left reads got faults plan a c [] (s ∷ []) (s ∷ []) [] e
      stops_unheard NoMemory kept refused = inr (unheard NoMemory kept refused)
      stops_unheard WriteFault kept refused = absurd refused
      stops_unheard ReadFault kept refused = unheard ReadFault kept refused
      stops_unheard InvalidData kept refused = unheard InvalidData kept refused
      stops_unheard UnexpectedEof kept refused = unheard UnexpectedEof kept refused
      stops_unheard TooMuch kept refused = unheard TooMuch kept refused
      stops_unheard (UnexpectedReply tag) kept refused = absurd refused

      -- as `receive` says it
      pub stops_alone : {A : Type 0} (e : PhaseError) → Receives (held_by b) (held_by c) (left (source_of b)) (left (source_of c)) []
          → (IsErrOf {T = A} (Err e) ReadFault → Rose (reads (source_of b)) (reads (source_of c)) × IsFront (held_by c).bytes × (0 < (held_by c).budget))
          → ((IsErrOf {T = A} (Err e) ReadFault → ⊥) → reads (source_of c) ≡ reads (source_of b))
          → (IsErrOf {T = A} (Err e) WriteFault → ⊥)
          → (IsErrOf {T = A} (Err e) InvalidData → IsMalformed (held_by c).bytes)
          → (IsErrOf {T = A} (Err e) UnexpectedEof → IsFront (held_by c).bytes × (0 < (held_by c).budget) × IfSome (left (source_of b)) (λ _. left (source_of c) ≡ Some []))
          → (IsErrOf {T = A} (Err e) TooMuch → IsFront (held_by c).bytes × ((held_by c).budget ≡ 0))
          → ((tag : _) → IsErrOf {T = A} (Err e) (UnexpectedReply tag) → ⊥)
          → reads (source_of b) ≤ reads (source_of c)
          → StopsBehind left reads got faults plan a c [] (s ∷ []) (s ∷ []) [] e
      stops_alone {A} e kept fault no_fault write bad end much unexpected rises =
          stops_unheard e kept (refused_first left reads got faults plan a b c little_alone.no_fault sent_alone.received.taken sent_alone.received.told {A = A} e fault no_fault write bad end much unexpected rises)

  -- ---- one roll

  -- nothing was sent
  pub conversed_none : (a : Connection R W) → Conversed left reads got faults plan a a [] []
  conversed_none a = record { one_each = refl; exchanged = exchanged_none left reads got faults plan a; little = little_none left reads got faults plan a; unread = λ _. refl }

  -- no memory for what it made
  pub ran_out_alone : (a : Connection R W) (made : Option Stanza) → IsSome made → RanOut left reads got faults plan a a (option_to_list made) []
  ran_out_alone a None is = absurd cc
  ran_out_alone a (Some x) is = record { at = x; later = []; in_order = refl; replies = []; conversed = conversed_none a }

-- ---- what a call answers

module _ {R W : Type 0} (left : R → Option (List ℕ)) (reads : R → ℕ) (got : W → Option (List ℕ)) (faults : W → ℕ) (plan : W → List ℕ) (a c : Connection R W) (stream rest : Stream) (sent : Stanza) where
  stops_asking : (e : PhaseError) → Stops left reads got faults plan a c stream rest (grease_of stream) (due sent stream) (due sent stream) e
      → Asks left reads got faults plan a c stream rest sent (Err e)
  stops_asking NoMemory h = h
  stops_asking WriteFault h = h
  stops_asking ReadFault h = h
  stops_asking InvalidData h = h
  stops_asking UnexpectedEof h = h
  stops_asking TooMuch h = h
  stops_asking (UnexpectedReply tag) h = absurd h.behind

  pub asks_stops : (r : Result (Result Held-Stanza Error) PhaseError) (e : PhaseError) → IsErrAnd r (λ x. x ≡ e)
      → Stops left reads got faults plan a c stream rest (grease_of stream) (due sent stream) (due sent stream) e → Asks left reads got faults plan a c stream rest sent r
  asks_stops (Ok x) e is h = absurd is
  asks_stops (Err x) e is h = subst (λ (y : PhaseError). Asks left reads got faults plan a c stream rest sent (Err y)) (sym is) (stops_asking e h)

  hears_error : (e : PhaseError) → Hears left reads got faults plan a c stream rest sent (Err e) → Asks left reads got faults plan a c stream rest sent (Err e)
  hears_error NoMemory h = absurd h.says
  hears_error WriteFault h = absurd h.says
  hears_error ReadFault h = absurd h.says
  hears_error InvalidData h = absurd h.says
  hears_error UnexpectedEof h = absurd h.says
  hears_error TooMuch h = absurd h.says
  hears_error (UnexpectedReply tag) h = h

  pub asks_hears : (r : Result (Result Held-Stanza Error) PhaseError) → Hears left reads got faults plan a c stream rest sent r → Asks left reads got faults plan a c stream rest sent r
  asks_hears (Ok x) h = h
  asks_hears (Err e) h = hears_error e h
