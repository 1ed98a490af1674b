use Rattle.std.proofs.Common.{[], ◌∷◌, map, refl, sym, ◌∙◌}
use Rattle.std.specs.Option.{option_to_list}
use Rattle.std.specs.String.{string_bytes}
use Rattle.rand_core.specs.Stream.{Stream}
use Rattle.age_format.specs.Stanza.{Stanza, stanza_of}
use Rattle.age_send.specs.Sending.{first_roll, second_roll, stanza_with}
use Rattle.age_core.specs.Asking.{connection_of, rng_of, grease_of}
use Rattle.age_core.proofs.Asking.{asks_hears, asks_stops, conversed_both, stops_later, stops_front, stands_second}
use Rattle.age_core.proofs.plugin.asking.BidirSend.send.Goals as goal

pub returns-in_err-ask_grease-clause-asked : goal.returns-in_err-ask_grease-clause-asked
returns-in_err-ask_grease-clause-asked g c =
    let source = g.R.Source in
    let sink = g.W.Sink in
    let before : Stream = g.G.Rng.stream (rng_of c.args.self.now) in
    let after : Stream = g.G.Rng.stream c.ask_grease.new.rng in
    let sent : Stanza = stanza_with c.args.command.now (map string_bytes c.args.metadata.now) c.args.body.now in
    let stops = c.in_err-ask_grease.ensures.stops in
    let e = c.in_err-ask_grease.field-0.0 in
    asks_stops source.left source.faults sink.got sink.faults sink.plan (connection_of c.args.self.now) c.ask_grease.new.self before after sent c.from_residual.result e c.from_residual.ensures.1
    (record {
      answered = stops.answered;
      behind = stops_later source.left source.faults sink.got sink.faults sink.plan (connection_of c.args.self.now) c.ask_grease.new.self (grease_of before) stops.answered (sent ∷ []) (sent ∷ []) e stops.behind;
      stands = stops.stands;
    })

pub returns-in_err-reply-clause-asked : goal.returns-in_err-reply-clause-asked
returns-in_err-reply-clause-asked g c =
    let source = g.R.Source in
    let sink = g.W.Sink in
    let before : Stream = g.G.Rng.stream (rng_of c.args.self.now) in
    let after : Stream = g.G.Rng.stream c.ask_grease.new.rng in
    let sent : Stanza = stanza_with c.args.command.now (map string_bytes c.args.metadata.now) c.args.body.now in
    let heard = c.in_ok-ask_grease.ensures.heard in
    let e = c.in_err-reply.field-0.0 in
    asks_stops source.left source.faults sink.got sink.faults sink.plan (connection_of c.args.self.now) c.ask.new.self before after sent c.from_residual-in_err-reply.result e c.from_residual-in_err-reply.ensures.1
    (record {
      answered = grease_of before;
      behind = stops_front source.left source.faults sink.got sink.faults sink.plan (connection_of c.args.self.now) c.ask_grease.new.self c.ask.new.self (grease_of before) heard.0 heard.1 (sent ∷ []) (sent ∷ []) e c.in_err-reply.ensures.stops;
      stands = c.in_ok-ask_grease.ensures.rest ∙ sym (stands_second before (first_roll before).0 refl (option_to_list (second_roll before).0));
    })

pub returns-clause-asked : goal.returns-clause-asked
returns-clause-asked g c =
    let source = g.R.Source in
    let sink = g.W.Sink in
    let before : Stream = g.G.Rng.stream (rng_of c.args.self.now) in
    let after : Stream = g.G.Rng.stream c.ask_grease.new.rng in
    let sent : Stanza = stanza_with c.args.command.now (map string_bytes c.args.metadata.now) c.args.body.now in
    let heard = c.in_ok-ask_grease.ensures.heard in
    let reply : Stanza = stanza_of c.in_ok-reply.reply in
    asks_hears source.left source.faults sink.got sink.faults sink.plan (connection_of c.args.self.now) c.ask.new.self before after sent c.said.result
    (record {
      dropped = heard.0;
      reply = reply;
      conversed = conversed_both source.left source.faults sink.got sink.faults sink.plan (connection_of c.args.self.now) c.ask_grease.new.self c.ask.new.self (grease_of before) (sent ∷ []) heard.0 (reply ∷ []) heard.1 c.in_ok-reply.ensures.heard;
      stands = c.in_ok-ask_grease.ensures.rest;
      says = c.said.ensures;
    })
