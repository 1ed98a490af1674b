use Rattle.std.proofs.Common.{◌+◌, ◌<◌, List, ℕ, [], ◌∷◌, ◌++◌, length, map, sym, subst, ◌∙◌}
use Rattle.std.specs.String.{string_bytes}
use Rattle.std.proofs.lemmas.List.{append-nil}
use Rattle.age_format.specs.Stanza.{Stanza, stanza_of, spelling}
use Rattle.age_format.specs.Receiving.{Held}
use Rattle.age_format.proofs.Dones.{not_done, is_done}
use Rattle.age_format.proofs.Receipts.{receives_less}
use Rattle.age_core.specs.Connecting.{source_of, held_by}
use Rattle.age_core.specs.Replies.{IsPassedOver, unsupported_reply, unsupported_text}
use Rattle.age_core.specs.Exchanges.{Exchanged}
use Rattle.age_core.proofs.Exchanges.{last_text, exchanged_received, exchanged_wrote, interrupted, little_received, little_wrote, refused_first}
use Rattle.age_core.proofs.Passing.{passed_over-push, next_unread, next_more, next_same, passing_refused, gives_none}
use Rattle.age_core.proofs.plugin.connection.Connection.pass_over.Goals as goal

pub returns-in_err-stanza-clause-none : goal.returns-in_err-stanza-clause-none
returns-in_err-stanza-clause-none g c =
    let source = g.R.Source in
    let sink = g.W.Sink in
    let tags : List (List ℕ) = map string_bytes c.args.commands.now in
    let inv = c.loop-stanza.invariant in
    let receive = c.in_err-stanza.ensures in
    let refused = refused_first source.left source.faults sink.got sink.faults sink.plan c.args.self.now c.loop-stanza.self c.receive.new.self inv.little.no_fault inv.passed.2.received.taken inv.passed.2.received.told c.in_err-stanza.field-0.0 receive.read_fault receive.no_fault receive.no_write_fault receive.invalid_data receive.unexpected_eof receive.too_much receive.no_unexpected_reply receive.faults in
    let all = exchanged_received source.left source.faults sink.got sink.faults sink.plan c.args.self.now c.loop-stanza.self c.receive.new.self inv.passed.0 [] (unsupported_text inv.passed.0) inv.passed.2 receive.kept receive.sink in
    let same = subst (λ (ss : List Stanza). Exchanged source.left source.faults sink.got sink.faults sink.plan c.args.self.now c.receive.new.self ss (unsupported_text inv.passed.0)) (append-nil inv.passed.0) all in
    gives_none source.left source.faults sink.got sink.faults sink.plan c.args.self.now c.receive.new.self tags c.from_residual.result c.in_err-stanza.field-0.0 c.from_residual.ensures.1
    (passing_refused source.left source.faults sink.got sink.faults sink.plan c.args.self.now c.receive.new.self tags inv.passed.0 inv.passed.1 same c.in_err-stanza.field-0.0 refused)

pub returns-in_err-stanza-clause-unread : goal.returns-in_err-stanza-clause-unread
returns-in_err-stanza-clause-unread g c =
    next_unread (map string_bytes c.args.commands.now) (held_by c.args.self.now) (held_by c.loop-stanza.self) (source_of c.args.self.now) (source_of c.loop-stanza.self) (source_of c.receive.new.self) c.loop-stanza.invariant.unread c.in_err-stanza.ensures.unread

pub returns-then-has_tag-clause-none : goal.returns-then-has_tag-clause-none
returns-then-has_tag-clause-none g c =
    let source = g.R.Source in
    let sink = g.W.Sink in
    let inv = c.loop-stanza.invariant in
    let receive = c.in_ok-stanza.ensures in
    let stanza = c.in_ok-stanza.stanza in
    record {
      passed = inv.passed.0;
      last = stanza_of stanza;
      exchanged = exchanged_received source.left source.faults sink.got sink.faults sink.plan c.args.self.now c.loop-stanza.self c.receive.new.self inv.passed.0 (stanza_of stanza ∷ []) (unsupported_text inv.passed.0) inv.passed.2 receive.given receive.sink;
      passed_over = inv.passed.1;
      is_done = is_done (string_bytes stanza.tag) (sym c.has_tag.ensures ∙ c.if-has_tag.true);
      little = little_received source.left source.faults sink.got sink.faults sink.plan c.args.self.now c.loop-stanza.self c.receive.new.self (stanza_of stanza) inv.little receive.given receive.behind (receive.no_fault (λ e. cc));
    }

pub returns-then-has_tag-clause-unread : goal.returns-then-has_tag-clause-unread
returns-then-has_tag-clause-unread g c =
    next_unread (map string_bytes c.args.commands.now) (held_by c.args.self.now) (held_by c.loop-stanza.self) (source_of c.args.self.now) (source_of c.loop-stanza.self) (source_of c.receive.new.self) c.loop-stanza.invariant.unread c.in_ok-stanza.ensures.unread

pub returns-then-has_tag_among-clause-given : goal.returns-then-has_tag_among-clause-given
returns-then-has_tag_among-clause-given g c =
    let source = g.R.Source in
    let sink = g.W.Sink in
    let inv = c.loop-stanza.invariant in
    let receive = c.in_ok-stanza.ensures in
    let stanza = c.in_ok-stanza.stanza in
    record {
      passed = inv.passed.0;
      exchanged = exchanged_received source.left source.faults sink.got sink.faults sink.plan c.args.self.now c.loop-stanza.self c.receive.new.self inv.passed.0 (stanza_of stanza ∷ []) (unsupported_text inv.passed.0) inv.passed.2 receive.given receive.sink;
      passed_over = inv.passed.1;
      is_command = (not_done (string_bytes stanza.tag) (sym c.has_tag.ensures ∙ c.if-has_tag.false), sym c.has_tag_among.ensures ∙ c.if-has_tag_among.true);
      little = little_received source.left source.faults sink.got sink.faults sink.plan c.args.self.now c.loop-stanza.self c.receive.new.self (stanza_of stanza) inv.little receive.given receive.behind (receive.no_fault (λ e. cc));
    }

pub returns-then-has_tag_among-clause-unread : goal.returns-then-has_tag_among-clause-unread
returns-then-has_tag_among-clause-unread g c =
    next_unread (map string_bytes c.args.commands.now) (held_by c.args.self.now) (held_by c.loop-stanza.self) (source_of c.args.self.now) (source_of c.loop-stanza.self) (source_of c.receive.new.self) c.loop-stanza.invariant.unread c.in_ok-stanza.ensures.unread

pub returns-in-Err-clause-none : goal.returns-in-Err-clause-none
returns-in-Err-clause-none g c =
    let source = g.R.Source in
    let sink = g.W.Sink in
    let tags : List (List ℕ) = map string_bytes c.args.commands.now in
    let inv = c.loop-stanza.invariant in
    let receive = c.in_ok-stanza.ensures in
    let wrote = c.in-Err.ensures in
    let stanza = c.in_ok-stanza.stanza in
    let over : IsPassedOver tags (stanza_of stanza) = (not_done (string_bytes stanza.tag) (sym c.has_tag.ensures ∙ c.if-has_tag.false), sym c.has_tag_among.ensures ∙ c.if-has_tag_among.false) in
    let all = exchanged_received source.left source.faults sink.got sink.faults sink.plan c.args.self.now c.loop-stanza.self c.receive.new.self inv.passed.0 (stanza_of stanza ∷ []) (unsupported_text inv.passed.0) inv.passed.2 receive.given receive.sink in
    record {
      passed = inv.passed.0;
      last = stanza_of stanza;
      interrupted = interrupted source.left source.faults sink.got sink.faults sink.plan c.args.self.now c.receive.new.self c.reply_unsupported.new.self wrote.source wrote.held (inv.passed.0 ++ stanza_of stanza ∷ []) (unsupported_text inv.passed.0) (spelling unsupported_reply) all wrote.written;
      passed_over = passed_over-push tags inv.passed.0 (stanza_of stanza) inv.passed.1 over;
      little = little_wrote source.left source.faults sink.got sink.faults sink.plan c.args.self.now c.receive.new.self c.reply_unsupported.new.self wrote.source wrote.held (little_received source.left source.faults sink.got sink.faults sink.plan c.args.self.now c.loop-stanza.self c.receive.new.self (stanza_of stanza) inv.little receive.given receive.behind (receive.no_fault (λ e. cc)));
    }

pub returns-in-Err-clause-unread : goal.returns-in-Err-clause-unread
returns-in-Err-clause-unread g c stands =
    c.in-Err.ensures.source ∙ next_unread (map string_bytes c.args.commands.now) (held_by c.args.self.now) (held_by c.loop-stanza.self) (source_of c.args.self.now) (source_of c.loop-stanza.self) (source_of c.receive.new.self) c.loop-stanza.invariant.unread c.in_ok-stanza.ensures.unread stands

pub loop-stanza-smaller : goal.loop-stanza-smaller
loop-stanza-smaller g c =
    let left = g.R.Source.left in
    subst (λ (h : Held). length h.bytes + h.budget < length (held_by c.loop-stanza.self).bytes + (held_by c.loop-stanza.self).budget) (sym c.in-Ok.ensures.held)
    (receives_less (held_by c.loop-stanza.self) (held_by c.receive.new.self) (left (source_of c.loop-stanza.self)) (left (source_of c.receive.new.self)) (stanza_of c.in_ok-stanza.stanza) c.in_ok-stanza.ensures.given)

pub loop-stanza-preserved : goal.loop-stanza-preserved
loop-stanza-preserved g c =
    let source = g.R.Source in
    let sink = g.W.Sink in
    let tags : List (List ℕ) = map string_bytes c.args.commands.now in
    let inv = c.loop-stanza.invariant in
    let receive = c.in_ok-stanza.ensures in
    let wrote = c.in-Ok.ensures in
    let stanza = c.in_ok-stanza.stanza in
    let over : IsPassedOver tags (stanza_of stanza) = (not_done (string_bytes stanza.tag) (sym c.has_tag.ensures ∙ c.if-has_tag.false), sym c.has_tag_among.ensures ∙ c.if-has_tag_among.false) in
    let all = exchanged_received source.left source.faults sink.got sink.faults sink.plan c.args.self.now c.loop-stanza.self c.receive.new.self inv.passed.0 (stanza_of stanza ∷ []) (unsupported_text inv.passed.0) inv.passed.2 receive.given receive.sink in
    let more = exchanged_wrote source.left source.faults sink.got sink.faults sink.plan c.args.self.now c.receive.new.self c.reply_unsupported.new.self wrote.source wrote.held (inv.passed.0 ++ stanza_of stanza ∷ []) (unsupported_text inv.passed.0) (spelling unsupported_reply) all wrote.written in
    record {
      passed = (
        inv.passed.0 ++ stanza_of stanza ∷ [],
        passed_over-push tags inv.passed.0 (stanza_of stanza) inv.passed.1 over,
        subst (λ (t : List ℕ). Exchanged source.left source.faults sink.got sink.faults sink.plan c.args.self.now c.reply_unsupported.new.self (inv.passed.0 ++ stanza_of stanza ∷ []) t) (sym (last_text (λ _. spelling unsupported_reply) inv.passed.0 (stanza_of stanza))) more,
      );
      little = little_wrote source.left source.faults sink.got sink.faults sink.plan c.args.self.now c.receive.new.self c.reply_unsupported.new.self wrote.source wrote.held (little_received source.left source.faults sink.got sink.faults sink.plan c.args.self.now c.loop-stanza.self c.receive.new.self (stanza_of stanza) inv.little receive.given receive.behind (receive.no_fault (λ e. cc)));
      unread = next_same tags (held_by c.args.self.now) (held_by c.receive.new.self) (held_by c.reply_unsupported.new.self) (source_of c.args.self.now) (source_of c.receive.new.self) (source_of c.reply_unsupported.new.self) wrote.held wrote.source
          (next_more tags (held_by c.args.self.now) (held_by c.loop-stanza.self) (held_by c.receive.new.self) (source_of c.args.self.now) (source_of c.loop-stanza.self) (source_of c.receive.new.self) (source.left (source_of c.loop-stanza.self)) (source.left (source_of c.receive.new.self)) (stanza_of stanza) inv.unread receive.unread receive.unpaid receive.given over);
    }
