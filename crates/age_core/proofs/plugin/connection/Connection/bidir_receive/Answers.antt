use Rattle.std.proofs.Common.{◌≡◌, ◌+◌, ◌<◌, List, ℕ, [], ◌∷◌, ◌++◌, length, map, refl, sym, subst, ◌∙◌}
use Rattle.std.specs.Fn.{CalledAt, TakesAt}
use Rattle.std.specs.List.{flat_map}
use Rattle.std.specs.String.{string_bytes}
use Rattle.std.proofs.lemmas.List.{append-nil, map_push}
use Rattle.age_format.specs.Stanza.{Stanza, stanza_of, spelling}
use Rattle.age_format.specs.Reading.{NoneDone}
use Rattle.age_format.specs.Receiving.{Held}
use Rattle.age_format.proofs.Dones.{none_done-push, not_done, is_done}
use Rattle.age_format.proofs.Receipts.{held_more, held_unread, receives_less}
use Rattle.age_core.specs.Connecting.{source_of, held_by}
use Rattle.age_core.specs.Exchanges.{Exchanged, PhaseRefused}
use Rattle.age_core.proofs.Exchanges.{last_text, exchanged_none, exchanged_received, exchanged_wrote, interrupted, little_none, little_received, little_wrote, refused_first}
use Rattle.age_core.proofs.Handling.{if_err_at, held_same, replies_more, may_answer, phase_refused}
use Rattle.age_core.proofs.plugin.connection.Connection.bidir_receive.Goals as goal

pub loop-handler-init : goal.loop-handler-init
loop-handler-init g c =
    let source = g.R.Source in
    let sink = g.W.Sink in
    record {
      replied = ([], [], tt, refl, exchanged_none source.left source.faults sink.got sink.faults sink.plan c.args.self.now);
      little = little_none source.left source.faults sink.got sink.faults sink.plan c.args.self.now;
      unread = λ stanzas stands. (refl, stanzas, stands);
    }

pub returns-in_err-stanza-clause-refused : goal.returns-in_err-stanza-clause-refused
returns-in_err-stanza-clause-refused g c =
    let source = g.R.Source in
    let sink = g.W.Sink in
    let tags : List (List ℕ) = map string_bytes c.args.commands.now in
    let inv = c.loop-handler.invariant in
    let receive = c.in_err-stanza.ensures in
    let stanzas : List Stanza = map stanza_of inv.replied.0 in
    let text : List ℕ = flat_map spelling inv.replied.1 in
    let e = c.in_err-stanza.field-0.0 in
    let refused = refused_first source.left source.faults sink.got sink.faults sink.plan c.args.self.now c.loop-handler.self c.receive.new.self inv.little.no_fault inv.replied.4.received.taken inv.replied.4.received.told e receive.read_fault receive.no_fault receive.no_write_fault receive.invalid_data receive.unexpected_eof receive.too_much receive.no_unexpected_reply receive.faults in
    let all = exchanged_received source.left source.faults sink.got sink.faults sink.plan c.args.self.now c.loop-handler.self c.receive.new.self stanzas [] text inv.replied.4 receive.kept receive.sink in
    let same = subst (λ (ss : List Stanza). Exchanged source.left source.faults sink.got sink.faults sink.plan c.args.self.now c.receive.new.self ss text) (append-nil stanzas) all in
    if_err_at (PhaseRefused source.left source.faults sink.got sink.faults sink.plan c.args.self.now c.receive.new.self (CalledAt g.F.FnMut) tags c.args.handler) c.from_residual.result e c.from_residual.ensures.1
    (phase_refused source.left source.faults sink.got sink.faults sink.plan c.args.self.now c.receive.new.self (CalledAt g.F.FnMut) tags c.args.handler inv.replied.0 inv.replied.1 c.loop-handler.handler inv.replied.2 inv.replied.3 same e refused)

pub returns-in_err-stanza-clause-unread : goal.returns-in_err-stanza-clause-unread
returns-in_err-stanza-clause-unread g c =
    held_unread (held_by c.args.self.now) (held_by c.loop-handler.self) (source_of c.args.self.now) (source_of c.loop-handler.self) (source_of c.receive.new.self) c.loop-handler.invariant.unread c.in_err-stanza.ensures.unread

pub returns-then-has_tag-clause-done : goal.returns-then-has_tag-clause-done
returns-then-has_tag-clause-done g c =
    let source = g.R.Source in
    let sink = g.W.Sink in
    let inv = c.loop-handler.invariant in
    let receive = c.in_ok-stanza.ensures in
    let stanza = c.in_ok-stanza.stanza in
    record {
      stanzas = inv.replied.0;
      replies = inv.replied.1;
      after = c.loop-handler.handler;
      last = stanza_of stanza;
      none_done = inv.replied.2;
      replied = inv.replied.3;
      exchanged = exchanged_received source.left source.faults sink.got sink.faults sink.plan c.args.self.now c.loop-handler.self c.receive.new.self (map stanza_of inv.replied.0) (stanza_of stanza ∷ []) (flat_map spelling inv.replied.1) inv.replied.4 receive.given receive.sink;
      is_done = is_done (string_bytes stanza.tag) (sym c.has_tag.ensures ∙ c.if-has_tag.true);
      little = little_received source.left source.faults sink.got sink.faults sink.plan c.args.self.now c.loop-handler.self c.receive.new.self (stanza_of stanza) inv.little receive.given receive.behind (receive.no_fault (λ e. cc));
    }

pub returns-then-has_tag-clause-unread : goal.returns-then-has_tag-clause-unread
returns-then-has_tag-clause-unread g c =
    held_unread (held_by c.args.self.now) (held_by c.loop-handler.self) (source_of c.args.self.now) (source_of c.loop-handler.self) (source_of c.receive.new.self) c.loop-handler.invariant.unread c.in_ok-stanza.ensures.unread

pub respond-requires : goal.respond-requires
respond-requires g c among =
    let inv = c.loop-handler.invariant in
    let stanza = c.in_ok-stanza.stanza in
    may_answer (TakesAt g.F.FnMut) (CalledAt g.F.FnMut) (map string_bytes c.args.commands.now) c.args.handler inv.replied.0 inv.replied.1 c.loop-handler.handler stanza c.requires inv.replied.3 inv.replied.2
    (not_done (string_bytes stanza.tag) (sym c.has_tag.ensures ∙ c.if-has_tag.false)) among

pub returns-in-Err-clause-refused : goal.returns-in-Err-clause-refused
returns-in-Err-clause-refused g c =
    let source = g.R.Source in
    let sink = g.W.Sink in
    let inv = c.loop-handler.invariant in
    let receive = c.in_ok-stanza.ensures in
    let wrote = c.in-Err.ensures in
    let stanza = c.in_ok-stanza.stanza in
    let stanzas : List Stanza = map stanza_of inv.replied.0 in
    let text : List ℕ = flat_map spelling inv.replied.1 in
    let all = exchanged_received source.left source.faults sink.got sink.faults sink.plan c.args.self.now c.loop-handler.self c.receive.new.self stanzas (stanza_of stanza ∷ []) text inv.replied.4 receive.given receive.sink in
    record {
      stanzas = inv.replied.0;
      replies = inv.replied.1;
      after = c.loop-handler.handler;
      last = stanza;
      reply = wrote.written.0;
      left_behind = c.respond.new.handler;
      none_done = none_done-push stanzas (stanza_of stanza) inv.replied.2 (not_done (string_bytes stanza.tag) (sym c.has_tag.ensures ∙ c.if-has_tag.false));
      replied = inv.replied.3;
      owed = wrote.written.1;
      interrupted = interrupted source.left source.faults sink.got sink.faults sink.plan c.args.self.now c.receive.new.self c.respond.new.self wrote.source wrote.held (stanzas ++ stanza_of stanza ∷ []) text (spelling wrote.written.0) all wrote.written.2;
      little = little_wrote source.left source.faults sink.got sink.faults sink.plan c.args.self.now c.receive.new.self c.respond.new.self wrote.source wrote.held (little_received source.left source.faults sink.got sink.faults sink.plan c.args.self.now c.loop-handler.self c.receive.new.self (stanza_of stanza) inv.little receive.given receive.behind (receive.no_fault (λ e. cc)));
    }

pub returns-in-Err-clause-unread : goal.returns-in-Err-clause-unread
returns-in-Err-clause-unread g c stanzas stands =
    c.in-Err.ensures.source ∙ held_unread (held_by c.args.self.now) (held_by c.loop-handler.self) (source_of c.args.self.now) (source_of c.loop-handler.self) (source_of c.receive.new.self) c.loop-handler.invariant.unread c.in_ok-stanza.ensures.unread stanzas stands

pub loop-handler-smaller : goal.loop-handler-smaller
loop-handler-smaller g c =
    let left = g.R.Source.left in
    subst (λ (h : Held). length h.bytes + h.budget < length (held_by c.loop-handler.self).bytes + (held_by c.loop-handler.self).budget) (sym c.in-Ok.ensures.held)
    (receives_less (held_by c.loop-handler.self) (held_by c.receive.new.self) (left (source_of c.loop-handler.self)) (left (source_of c.receive.new.self)) (stanza_of c.in_ok-stanza.stanza) c.in_ok-stanza.ensures.given)

pub loop-handler-preserved : goal.loop-handler-preserved
loop-handler-preserved g c =
    let source = g.R.Source in
    let sink = g.W.Sink in
    let tags : List (List ℕ) = map string_bytes c.args.commands.now in
    let inv = c.loop-handler.invariant in
    let receive = c.in_ok-stanza.ensures in
    let wrote = c.in-Ok.ensures in
    let stanza = c.in_ok-stanza.stanza in
    let stanzas : List Stanza = map stanza_of inv.replied.0 in
    let text : List ℕ = flat_map spelling inv.replied.1 in
    let other = not_done (string_bytes stanza.tag) (sym c.has_tag.ensures ∙ c.if-has_tag.false) in
    let pushed : map stanza_of (inv.replied.0 ++ stanza ∷ []) ≡ stanzas ++ stanza_of stanza ∷ [] = map_push stanza_of inv.replied.0 stanza in
    let all = exchanged_received source.left source.faults sink.got sink.faults sink.plan c.args.self.now c.loop-handler.self c.receive.new.self stanzas (stanza_of stanza ∷ []) text inv.replied.4 receive.given receive.sink in
    let more = exchanged_wrote source.left source.faults sink.got sink.faults sink.plan c.args.self.now c.receive.new.self c.respond.new.self wrote.source wrote.held (stanzas ++ stanza_of stanza ∷ []) text (spelling wrote.written.0) all wrote.written.2 in
    record {
      replied = (
        inv.replied.0 ++ stanza ∷ [],
        inv.replied.1 ++ wrote.written.0 ∷ [],
        subst NoneDone (sym pushed) (none_done-push stanzas (stanza_of stanza) inv.replied.2 other),
        replies_more (TakesAt g.F.FnMut) (CalledAt g.F.FnMut) tags c.args.handler inv.replied.0 inv.replied.1 c.loop-handler.handler stanza wrote.written.0 c.respond.new.handler inv.replied.3 wrote.written.1,
        subst (λ (ss : List Stanza). Exchanged source.left source.faults sink.got sink.faults sink.plan c.args.self.now c.respond.new.self ss (flat_map spelling (inv.replied.1 ++ wrote.written.0 ∷ []))) (sym pushed)
            (subst (λ (t : List ℕ). Exchanged source.left source.faults sink.got sink.faults sink.plan c.args.self.now c.respond.new.self (stanzas ++ stanza_of stanza ∷ []) t) (sym (last_text spelling inv.replied.1 wrote.written.0)) more),
      );
      little = little_wrote source.left source.faults sink.got sink.faults sink.plan c.args.self.now c.receive.new.self c.respond.new.self wrote.source wrote.held (little_received source.left source.faults sink.got sink.faults sink.plan c.args.self.now c.loop-handler.self c.receive.new.self (stanza_of stanza) inv.little receive.given receive.behind (receive.no_fault (λ e. cc)));
      unread = held_same (held_by c.args.self.now) (held_by c.receive.new.self) (held_by c.respond.new.self) (source_of c.args.self.now) (source_of c.receive.new.self) (source_of c.respond.new.self) wrote.held wrote.source
          (held_more (held_by c.args.self.now) (held_by c.loop-handler.self) (held_by c.receive.new.self) (source_of c.args.self.now) (source_of c.loop-handler.self) (source_of c.receive.new.self) (source.left (source_of c.loop-handler.self)) (source.left (source_of c.receive.new.self)) (stanza_of stanza) inv.unread receive.unread receive.unpaid receive.given other);
    }
