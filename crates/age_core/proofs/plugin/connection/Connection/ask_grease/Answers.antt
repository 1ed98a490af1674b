use Rattle.std.proofs.Common.{◌≡◌, List, [], ◌++◌, refl, sym, ap, subst, ◌∙◌}
use Rattle.std.specs.Option.{option_to_list}
use Rattle.rand_core.specs.Stream.{Stream}
use Rattle.age_format.specs.Stanza.{Stanza}
use Rattle.age_send.specs.Sending.{drawn_roll, first_roll, second_roll}
use Rattle.age_core.specs.Asking.{grease_of, Conversed, StopsBehind, Stops}
use Rattle.age_core.proofs.Asking.{conversed_both, stops_after, stops_longer, stands_first, stands_second}
use Rattle.age_core.proofs.Handling.{if_err_at}
use Rattle.age_core.proofs.plugin.connection.Connection.ask_grease.Goals as goal

pub returns-in_err-ask_roll-clause-stops : goal.returns-in_err-ask_roll-clause-stops
returns-in_err-ask_roll-clause-stops g c =
    let source = g.R.Source in
    let sink = g.W.Sink in
    let before : Stream = g.G.Rng.stream c.args.rng.now in
    let after : Stream = g.G.Rng.stream c.ask_roll.new.rng in
    let one : List Stanza = option_to_list (first_roll before).0 in
    let two : List Stanza = option_to_list (second_roll before).0 in
    let e = c.in_err-ask_roll.field-0.0 in
    if_err_at (Stops source.left source.faults sink.got sink.faults sink.plan c.args.self.now c.ask_roll.new.self before after (grease_of before) (grease_of before) (grease_of before)) c.from_residual.result e c.from_residual.ensures.1
    (record {
      answered = [];
      behind = stops_longer source.left source.faults sink.got sink.faults sink.plan c.args.self.now c.ask_roll.new.self one one one [] two two two e c.in_err-ask_roll.ensures.stops;
      stands = c.in_err-ask_roll.ensures.rest ∙ sym (stands_first before (first_roll before).0 refl c.in_err-ask_roll.ensures.made);
    })

pub returns-in_err-ask_roll-2-clause-stops : goal.returns-in_err-ask_roll-2-clause-stops
returns-in_err-ask_roll-2-clause-stops g c =
    let source = g.R.Source in
    let sink = g.W.Sink in
    let before : Stream = g.G.Rng.stream c.args.rng.now in
    let middle : Stream = g.G.Rng.stream c.ask_roll.new.rng in
    let after : Stream = g.G.Rng.stream c.ask_roll-2.new.rng in
    let one : List Stanza = option_to_list (first_roll before).0 in
    let two : List Stanza = option_to_list (second_roll before).0 in
    let e = c.in_err-ask_roll-2.field-0.0 in
    let heard = c.in_ok-ask_roll.ensures.heard in
    let rolled : middle ≡ (first_roll before).1 = c.in_ok-ask_roll.ensures.rest in
    let stops : StopsBehind source.left source.faults sink.got sink.faults sink.plan c.ask_roll.new.self c.ask_roll-2.new.self two two two [] e =
    subst (λ (s : Stream). StopsBehind source.left source.faults sink.got sink.faults sink.plan c.ask_roll.new.self c.ask_roll-2.new.self (option_to_list (drawn_roll s).0) (option_to_list (drawn_roll s).0) (option_to_list (drawn_roll s).0) [] e) rolled c.in_err-ask_roll-2.ensures.stops in
    if_err_at (Stops source.left source.faults sink.got sink.faults sink.plan c.args.self.now c.ask_roll-2.new.self before after (grease_of before) (grease_of before) (grease_of before)) c.from_residual-in_err-ask_roll-2.result e c.from_residual-in_err-ask_roll-2.ensures.1
    (record {
      answered = one ++ [];
      behind = stops_after source.left source.faults sink.got sink.faults sink.plan c.args.self.now c.ask_roll.new.self c.ask_roll-2.new.self one heard.0 heard.1 two two two [] e stops;
      stands = c.in_err-ask_roll-2.ensures.rest ∙ (ap (λ (s : Stream). (drawn_roll s).1) rolled ∙ sym (stands_second before (first_roll before).0 refl []));
    })

pub returns-clause-heard : goal.returns-clause-heard
returns-clause-heard g c =
    let source = g.R.Source in
    let sink = g.W.Sink in
    let before : Stream = g.G.Rng.stream c.args.rng.now in
    let one : List Stanza = option_to_list (first_roll before).0 in
    let two : List Stanza = option_to_list (second_roll before).0 in
    let first = c.in_ok-ask_roll.ensures.heard in
    let second = c.in_ok-ask_roll-2.ensures.heard in
    let heard : Conversed source.left source.faults sink.got sink.faults sink.plan c.ask_roll.new.self c.ask_roll-2.new.self two second.0 =
    subst (λ (s : Stream). Conversed source.left source.faults sink.got sink.faults sink.plan c.ask_roll.new.self c.ask_roll-2.new.self (option_to_list (drawn_roll s).0) second.0) c.in_ok-ask_roll.ensures.rest second.1 in
    (first.0 ++ second.0, conversed_both source.left source.faults sink.got sink.faults sink.plan c.args.self.now c.ask_roll.new.self c.ask_roll-2.new.self one two first.0 second.0 first.1 heard)

pub returns-clause-rest : goal.returns-clause-rest
returns-clause-rest g c = c.in_ok-ask_roll-2.ensures.rest ∙ ap (λ (s : Stream). (drawn_roll s).1) c.in_ok-ask_roll.ensures.rest
