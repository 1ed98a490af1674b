use Rattle.std.proofs.Common.{[], ◌∷◌, map}
use Rattle.std.specs.String.{string_bytes}
use Rattle.age_format.specs.Stanza.{Stanza, stanza_of}
use Rattle.age_send.specs.Sending.{under_command}
use Rattle.age_core.specs.Asking.{StopsBehind}
use Rattle.age_core.proofs.Asking.{fails_alone, heard_alone, stops_alone}
use Rattle.age_core.proofs.Handling.{if_err_at}
use Rattle.age_core.proofs.plugin.connection.Connection.ask_under.Goals as goal

pub returns-in-Err-clause-stops : goal.returns-in-Err-clause-stops
returns-in-Err-clause-stops g c =
    let source = g.R.Source in
    let sink = g.W.Sink in
    let wrote = c.in-Err.ensures in
    let sent : Stanza = under_command c.args.command.now (map string_bytes c.args.metadata.now) (stanza_of c.args.stanza.now) in
    fails_alone source.left source.faults sink.got sink.faults sink.plan c.args.self.now c.write_under.new.self sent wrote.source wrote.held wrote.written

pub returns-in_err-reply-clause-stops : goal.returns-in_err-reply-clause-stops
returns-in_err-reply-clause-stops g c =
    let source = g.R.Source in
    let sink = g.W.Sink in
    let wrote = c.in-Ok.ensures in
    let receive = c.in_err-reply.ensures in
    let sent : Stanza = under_command c.args.command.now (map string_bytes c.args.metadata.now) (stanza_of c.args.stanza.now) in
    let e = c.in_err-reply.field-0.0 in
    if_err_at (StopsBehind source.left source.faults sink.got sink.faults sink.plan c.args.self.now c.receive.new.self [] (sent ∷ []) (sent ∷ []) []) c.from_residual.result e c.from_residual.ensures.1
    (stops_alone source.left source.faults sink.got sink.faults sink.plan c.args.self.now c.write_under.new.self sent wrote.source wrote.held wrote.written c.receive.new.self receive.sink receive.unread e receive.kept receive.read_fault receive.no_fault receive.no_write_fault receive.invalid_data receive.unexpected_eof receive.too_much receive.no_unexpected_reply receive.faults)

pub returns-clause-heard : goal.returns-clause-heard
returns-clause-heard g c =
    let source = g.R.Source in
    let sink = g.W.Sink in
    let wrote = c.in-Ok.ensures in
    let receive = c.in_ok-reply.ensures in
    let sent : Stanza = under_command c.args.command.now (map string_bytes c.args.metadata.now) (stanza_of c.args.stanza.now) in
    heard_alone source.left source.faults sink.got sink.faults sink.plan c.args.self.now c.write_under.new.self sent wrote.source wrote.held wrote.written c.receive.new.self receive.sink receive.unread (stanza_of c.in_ok-reply.reply) receive.given receive.behind (receive.no_fault (λ e. cc))
