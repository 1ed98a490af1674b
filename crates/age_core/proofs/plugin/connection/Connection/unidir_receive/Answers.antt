use Rattle.std.proofs.Common.{◌≡◌, Some, [], ◌∷◌, ◌++◌, map, refl, sym, subst, ◌∙◌, inl}
use Rattle.std.specs.Option.{option_copied}
use Rattle.std.specs.String.{string_bytes}
use Rattle.std.proofs.lemmas.List.{append-nil, map_push}
use Rattle.age_format.specs.declared.error.PhaseError.TheVariants.{ReadFault}
use Rattle.age_format.specs.Stanza.{stanza_of}
use Rattle.age_format.specs.Reading.{NoneDone}
use Rattle.age_format.specs.Receiving.{Receives}
use Rattle.age_core.specs.Connecting.{source_of, held_by}
use Rattle.age_core.specs.Phases.{Commands, for_a, for_b, for_c, for_d, without_command}
use Rattle.age_format.proofs.Receipts.{GaveNoDone, receives_none, receives_both, receives_less, little_more, held_more, held_unread}
use Rattle.age_format.proofs.Dones.{none_done-push, not_done, is_done}
use Rattle.age_format.proofs.Refusals.{on_err, err_as, same_err}
use Rattle.age_core.proofs.Commands.{for_a-append, for_b-append, for_c-append, for_d-append, if_asked, may_next}
use Rattle.age_core.proofs.plugin.connection.Connection.unidir_receive.Goals as goal

pub loop-running-init : goal.loop-running-init
loop-running-init g c = record {
  taken = (
    [],
    tt,
    receives_none (held_by c.args.self.now) (g.R.Source.left (source_of c.args.self.now)),
    ([], refl, (refl, c.new.ensures.items)),
    ([], refl, (refl, c.new-2.ensures.items)),
    ([], refl, (refl, c.new-3.ensures.items)),
    ([], refl, (refl, c.new-4.ensures.items)),
  );
  behind = inl (refl, refl);
  unread = λ stanzas stands. (refl, stanzas, stands);
  no_fault = refl;
  sink = refl;
}

pub returns-in_err-stanza-clause-refused : goal.returns-in_err-stanza-clause-refused
returns-in_err-stanza-clause-refused g c =
    let left = g.R.Source.left in
    let taken = c.loop-running.invariant.taken in
    let both = receives_both (held_by c.args.self.now) (held_by c.loop-running.self) (held_by c.receive.new.self) (left (source_of c.args.self.now)) (left (source_of c.loop-running.self)) (left (source_of c.receive.new.self)) (map stanza_of taken.0) [] taken.2 c.in_err-stanza.ensures.kept in
    on_err {P = GaveNoDone (held_by c.args.self.now) (held_by c.receive.new.self) (left (source_of c.args.self.now)) (left (source_of c.receive.new.self))} c.from_residual.result (map stanza_of taken.0, taken.1, subst (λ ss. Receives (held_by c.args.self.now) (held_by c.receive.new.self) (left (source_of c.args.self.now)) (left (source_of c.receive.new.self)) ss) (append-nil (map stanza_of taken.0)) both)

pub returns-then-has_tag-clause-done : goal.returns-then-has_tag-clause-done
returns-then-has_tag-clause-done g c =
    let left = g.R.Source.left in
    let taken = c.loop-running.invariant.taken in
    let stanza = c.in_ok-stanza.stanza in (
      taken.0,
      stanza,
      receives_both (held_by c.args.self.now) (held_by c.loop-running.self) (held_by c.receive.new.self) (left (source_of c.args.self.now)) (left (source_of c.loop-running.self)) (left (source_of c.receive.new.self)) (map stanza_of taken.0) (stanza_of stanza ∷ []) taken.2 c.in_ok-stanza.ensures.given,
      taken.1,
      is_done (string_bytes stanza.tag) (sym c.has_tag.ensures ∙ c.if-has_tag.true),
      (c.loop-running.running.on_a, taken.3),
      (c.loop-running.running.on_b, taken.4),
      if_asked _ _ (option_copied c.args.command_c) _ c.loop-running.running.c c.loop-running.running.on_c _ c.asked.ensures taken.5,
      if_asked _ _ (option_copied c.args.command_d) _ c.loop-running.running.d c.loop-running.running.on_d _ c.asked-then-has_tag.ensures taken.6,
    )

pub returns-in_err-running-clause-refused : goal.returns-in_err-running-clause-refused
returns-in_err-running-clause-refused g c =
    let left = g.R.Source.left in
    let taken = c.loop-running.invariant.taken in
    let stanza = c.in_ok-stanza.stanza in
    on_err {P = GaveNoDone (held_by c.args.self.now) (held_by c.receive.new.self) (left (source_of c.args.self.now)) (left (source_of c.receive.new.self))} c.from_residual-in_err-running.result (
      map stanza_of taken.0 ++ stanza_of stanza ∷ [],
      none_done-push (map stanza_of taken.0) (stanza_of stanza) taken.1 (not_done (string_bytes stanza.tag) (sym c.has_tag.ensures ∙ c.if-has_tag.false)),
      receives_both (held_by c.args.self.now) (held_by c.loop-running.self) (held_by c.receive.new.self) (left (source_of c.args.self.now)) (left (source_of c.loop-running.self)) (left (source_of c.receive.new.self)) (map stanza_of taken.0) (stanza_of stanza ∷ []) taken.2 c.in_ok-stanza.ensures.given,
    )

pub loop-running-smaller : goal.loop-running-smaller
loop-running-smaller g c =
    let left = g.R.Source.left in
    receives_less (held_by c.loop-running.self) (held_by c.receive.new.self) (left (source_of c.loop-running.self)) (left (source_of c.receive.new.self)) (stanza_of c.in_ok-stanza.stanza) c.in_ok-stanza.ensures.given

pub loop-running-preserved : goal.loop-running-preserved
loop-running-preserved g c =
    let left = g.R.Source.left in
    let inv = c.loop-running.invariant in
    let taken = inv.taken in
    let stanza = c.in_ok-stanza.stanza in
    let tags : Commands = record { a = c.args.command_a.now; b = c.args.command_b.now; c = option_copied c.args.command_c; d = option_copied c.args.command_d } in
    let one = stanza ∷ [] in
    let pushed : map stanza_of (taken.0 ++ one) ≡ map stanza_of taken.0 ++ stanza_of stanza ∷ [] = map_push stanza_of taken.0 stanza in
    let both = receives_both (held_by c.args.self.now) (held_by c.loop-running.self) (held_by c.receive.new.self) (left (source_of c.args.self.now)) (left (source_of c.loop-running.self)) (left (source_of c.receive.new.self)) (map stanza_of taken.0) (stanza_of stanza ∷ []) taken.2 c.in_ok-stanza.ensures.given in
    record {
      taken = (
        taken.0 ++ one,
        subst NoneDone (sym pushed) (none_done-push (map stanza_of taken.0) (stanza_of stanza) taken.1 (not_done (string_bytes stanza.tag) (sym c.has_tag.ensures ∙ c.if-has_tag.false))),
        subst (λ ss. Receives (held_by c.args.self.now) (held_by c.receive.new.self) (left (source_of c.args.self.now)) (left (source_of c.receive.new.self)) ss) (sym pushed) both,
        rw (for_a-append tags taken.0 one) (c.in_ok-running.ensures.a c.args.on_a (for_a tags taken.0) taken.3),
        rw (for_b-append tags taken.0 one) (c.in_ok-running.ensures.b c.args.on_b (for_b tags taken.0) taken.4),
        rw (for_c-append tags taken.0 one) (c.in_ok-running.ensures.c c.args.on_c (for_c tags taken.0) taken.5),
        rw (for_d-append tags taken.0 one) (c.in_ok-running.ensures.d c.args.on_d (for_d tags taken.0) taken.6),
      );
      behind = little_more (held_by c.args.self.now) (held_by c.loop-running.self) (held_by c.receive.new.self) (source_of c.args.self.now) (source_of c.loop-running.self) (source_of c.receive.new.self) (left (source_of c.loop-running.self)) (left (source_of c.receive.new.self)) (stanza_of stanza) inv.behind c.in_ok-stanza.ensures.given c.in_ok-stanza.ensures.behind;
      unread = held_more (held_by c.args.self.now) (held_by c.loop-running.self) (held_by c.receive.new.self) (source_of c.args.self.now) (source_of c.loop-running.self) (source_of c.receive.new.self) (left (source_of c.loop-running.self)) (left (source_of c.receive.new.self)) (stanza_of stanza) inv.unread c.in_ok-stanza.ensures.unread c.in_ok-stanza.ensures.unpaid c.in_ok-stanza.ensures.given (not_done (string_bytes stanza.tag) (sym c.has_tag.ensures ∙ c.if-has_tag.false));
      no_fault = c.in_ok-stanza.ensures.no_fault (λ none. absurd cc) ∙ inv.no_fault;
      sink = c.in_ok-stanza.ensures.sink ∙ inv.sink;
    }

pub returns-in_err-stanza-clause-no_fault : goal.returns-in_err-stanza-clause-no_fault
returns-in_err-stanza-clause-no_fault g c other = c.in_err-stanza.ensures.no_fault (λ is. other (err_as c.from_residual.result c.in_err-stanza.field-0.0 ReadFault c.from_residual.ensures.1 (same_err _ _ is))) ∙ c.loop-running.invariant.no_fault

pub returns-then-has_tag-clause-behind : goal.returns-then-has_tag-clause-behind
returns-then-has_tag-clause-behind g c =
    let left = g.R.Source.left in
    let stanza = c.in_ok-stanza.stanza in
    little_more (held_by c.args.self.now) (held_by c.loop-running.self) (held_by c.receive.new.self) (source_of c.args.self.now) (source_of c.loop-running.self) (source_of c.receive.new.self) (left (source_of c.loop-running.self)) (left (source_of c.receive.new.self)) (stanza_of stanza) c.loop-running.invariant.behind c.in_ok-stanza.ensures.given c.in_ok-stanza.ensures.behind

pub returns-in_err-stanza-clause-unread : goal.returns-in_err-stanza-clause-unread
returns-in_err-stanza-clause-unread g c = held_unread (held_by c.args.self.now) (held_by c.loop-running.self) (source_of c.args.self.now) (source_of c.loop-running.self) (source_of c.receive.new.self) c.loop-running.invariant.unread c.receive.ensures.unread

pub returns-then-has_tag-clause-unread : goal.returns-then-has_tag-clause-unread
returns-then-has_tag-clause-unread g c = held_unread (held_by c.args.self.now) (held_by c.loop-running.self) (source_of c.args.self.now) (source_of c.loop-running.self) (source_of c.receive.new.self) c.loop-running.invariant.unread c.receive.ensures.unread

pub returns-in_err-running-clause-unread : goal.returns-in_err-running-clause-unread
returns-in_err-running-clause-unread g c = held_unread (held_by c.args.self.now) (held_by c.loop-running.self) (source_of c.args.self.now) (source_of c.loop-running.self) (source_of c.receive.new.self) c.loop-running.invariant.unread c.receive.ensures.unread

pub take-requires-clause-on_a : goal.take-requires-clause-on_a
take-requires-clause-on_a g c =
    let tags : Commands = record { a = c.args.command_a.now; b = c.args.command_b.now; c = option_copied c.args.command_c; d = option_copied c.args.command_d } in
    let taken = c.loop-running.invariant.taken in
    may_next _ _ (Some tags.a) c.args.on_a (taken.0) c.loop-running.running.a c.loop-running.running.on_a c.in_ok-stanza.stanza c.requires.on_a taken.3

pub take-requires-clause-on_b : goal.take-requires-clause-on_b
take-requires-clause-on_b g c =
    let tags : Commands = record { a = c.args.command_a.now; b = c.args.command_b.now; c = option_copied c.args.command_c; d = option_copied c.args.command_d } in
    let taken = c.loop-running.invariant.taken in
    may_next _ _ (Some tags.b) c.args.on_b (without_command (Some tags.a) taken.0) c.loop-running.running.b c.loop-running.running.on_b c.in_ok-stanza.stanza c.requires.on_b taken.4

pub take-requires-clause-on_c : goal.take-requires-clause-on_c
take-requires-clause-on_c g c =
    let tags : Commands = record { a = c.args.command_a.now; b = c.args.command_b.now; c = option_copied c.args.command_c; d = option_copied c.args.command_d } in
    let taken = c.loop-running.invariant.taken in
    may_next _ _ (tags.c) c.args.on_c (without_command (Some tags.b) (without_command (Some tags.a) taken.0)) c.loop-running.running.c c.loop-running.running.on_c c.in_ok-stanza.stanza c.requires.on_c taken.5

pub take-requires-clause-on_d : goal.take-requires-clause-on_d
take-requires-clause-on_d g c =
    let tags : Commands = record { a = c.args.command_a.now; b = c.args.command_b.now; c = option_copied c.args.command_c; d = option_copied c.args.command_d } in
    let taken = c.loop-running.invariant.taken in
    may_next _ _ (tags.d) c.args.on_d (without_command tags.c (without_command (Some tags.b) (without_command (Some tags.a) taken.0))) c.loop-running.running.d c.loop-running.running.on_d c.in_ok-stanza.stanza c.requires.on_d taken.6
