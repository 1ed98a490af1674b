use Rattle.std.proofs.Common.{List, ℕ, [], ◌∷◌, refl, sym, subst, ◌∙◌}
use Rattle.std.specs.List.{flat_map}
use Rattle.std.specs.Option.{option_to_list}
use Rattle.rand_core.specs.Stream.{Stream}
use Rattle.age_format.specs.Stanza.{spelling}
use Rattle.age_send.specs.Sending.{first_roll, second_roll, done}
use Rattle.age_core.specs.Exchanges.{Exchanged}
use Rattle.age_core.specs.Asking.{connection_of, rng_of, grease_of, due, Stops}
use Rattle.age_core.proofs.Exchanges.{last_text, exchanged_wrote, little_wrote}
use Rattle.age_core.proofs.Handling.{if_err_at}
use Rattle.age_core.proofs.Asking.{fails_alone, failed_behind, stops_sent, stands_second}
use Rattle.age_core.proofs.plugin.asking.BidirSend.finish.Goals as goal

pub returns-in_err-ask_grease-clause-stops : goal.returns-in_err-ask_grease-clause-stops
returns-in_err-ask_grease-clause-stops g c =
    let source = g.R.Source in
    let sink = g.W.Sink in
    let before : Stream = g.G.Rng.stream (rng_of c.args.self) in
    let after : Stream = g.G.Rng.stream c.ask_grease.new.rng in
    let stops = c.in_err-ask_grease.ensures.stops in
    let e = c.in_err-ask_grease.field-0.0 in
    if_err_at (Stops source.left source.faults sink.got sink.faults sink.plan (connection_of c.args.self) c.ask_grease.new.self before after (grease_of before) (due done before) (grease_of before)) c.from_residual.result e c.from_residual.ensures.1
    (record {
      answered = stops.answered;
      behind = stops_sent source.left source.faults sink.got sink.faults sink.plan (connection_of c.args.self) c.ask_grease.new.self (grease_of before) stops.answered (done ∷ []) e stops.behind;
      stands = stops.stands;
    })

pub returns-clause-finished : goal.returns-clause-finished
returns-clause-finished g c =
    let source = g.R.Source in
    let sink = g.W.Sink in
    let before : Stream = g.G.Rng.stream (rng_of c.args.self) in
    let heard = c.in_ok-ask_grease.ensures.heard in
    let wrote = c.in-Ok.ensures in
    let text : List ℕ = flat_map spelling (grease_of before) in
    record {
      replies = heard.0;
      one_each = heard.1.one_each;
      exchanged = subst (λ (t : List ℕ). Exchanged source.left source.faults sink.got sink.faults sink.plan (connection_of c.args.self) c.write.new.self heard.0 t) (sym (last_text spelling (grease_of before) done))
          (exchanged_wrote source.left source.faults sink.got sink.faults sink.plan (connection_of c.args.self) c.ask_grease.new.self c.write.new.self wrote.source wrote.held heard.0 text (spelling done) heard.1.exchanged wrote.written);
      little = little_wrote source.left source.faults sink.got sink.faults sink.plan (connection_of c.args.self) c.ask_grease.new.self c.write.new.self wrote.source wrote.held heard.1.little;
      unread = λ holds. wrote.source ∙ heard.1.unread holds;
      stands = c.in_ok-ask_grease.ensures.rest;
    }

pub returns-in-Err-clause-stops : goal.returns-in-Err-clause-stops
returns-in-Err-clause-stops g c =
    let source = g.R.Source in
    let sink = g.W.Sink in
    let before : Stream = g.G.Rng.stream (rng_of c.args.self) in
    let heard = c.in_ok-ask_grease.ensures.heard in
    let wrote = c.in-Err.ensures in
    record {
      answered = grease_of before;
      behind = failed_behind source.left source.faults sink.got sink.faults sink.plan (connection_of c.args.self) c.ask_grease.new.self c.write.new.self (grease_of before) heard.0 heard.1 (done ∷ []) (fails_alone source.left source.faults sink.got sink.faults sink.plan c.ask_grease.new.self c.write.new.self done wrote.source wrote.held wrote.written);
      stands = c.in_ok-ask_grease.ensures.rest ∙ sym (stands_second before (first_roll before).0 refl (option_to_list (second_roll before).0));
    }
