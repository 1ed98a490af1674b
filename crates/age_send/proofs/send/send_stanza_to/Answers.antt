use Rattle.std.proofs.Common.{◌≡◌, ◌∷◌, Err, map, ap}
use Rattle.std.specs.String.{string_bytes}
use Rattle.std.proofs.lemmas.Result.{err_from_is_err_and}
use Rattle.age_format.specs.Stanza.{IsArbitraryString, spelling, stanza_of}
use Rattle.age_format.specs.declared.error.PhaseError.TheVariants.{WriteFault}
use Rattle.age_send.specs.Sending.{AfterGrease, Sent, sent_text, under_command}
use Rattle.age_send.proofs.Greases.{all_join}
use Rattle.age_send.proofs.Sends.{after_grease, failed_behind, failed_in_grease, part_of, part_on_err, sent_all, wrote_of, wrote_on_ok}
use Rattle.age_send.proofs.send.send_stanza_to.Goals as goal

pub returns-in_err-send_grease-clause-write_fault : goal.returns-in_err-send_grease-clause-write_fault
returns-in_err-send_grease-clause-write_fault g c h =
    let sink = g.W.Sink in
    let stream = g.G.Rng.stream in
    let p = err_from_is_err_and c.from_residual.result c.from_residual.ensures.1 in
    let is : c.in_err-send_grease.field-0.0 ≡ WriteFault = cc (p.1, p.2, h) in
    failed_in_grease sink.got sink.faults sink.plan (under_command c.args.command.now (map string_bytes c.args.metadata.now) (stanza_of c.args.stanza.now)) (stream c.args.rng.now) c.args.sink.now c.send_grease.new.sink (stream c.send_grease.new.rng) (c.in_err-send_grease.ensures.write_fault (ap Err is))

pub returns-clause-sent : goal.returns-clause-sent
returns-clause-sent g c =
    let sink = g.W.Sink in
    let stream = g.G.Rng.stream in
    let sent = under_command c.args.command.now (map string_bytes c.args.metadata.now) (stanza_of c.args.stanza.now) in
    let wrote = wrote_of sink.got sink.faults sink.plan c.send_grease.new.sink c.write_under_command.new.sink c.write_under_command.result (spelling sent) c.write_under_command.ensures.written in
    wrote_on_ok c.phase.result c.write_under_command.result WriteFault
    (Sent sink.got sink.faults sink.plan c.args.sink.now c.write_under_command.new.sink sent (stream c.args.rng.now) (stream c.send_grease.new.rng)) c.phase.ensures.err wrote
    (λ w. sent_all sink.got sink.faults sink.plan sent (stream c.args.rng.now) c.args.sink.now c.send_grease.new.sink c.write_under_command.new.sink (stream c.send_grease.new.rng) c.in_ok-send_grease.ensures.sent w)

pub returns-clause-stanzas : goal.returns-clause-stanzas
returns-clause-stanzas g c =
    let before = g.G.Rng.stream c.args.rng.now in
    let greased = c.in_ok-send_grease.ensures.sent in
    let metadata = map string_bytes c.args.metadata.now in
    let stanza = stanza_of c.args.stanza.now in
    let sent = under_command c.args.command.now metadata stanza in
    let args = all_join IsArbitraryString metadata (stanza.tag ∷ stanza.args) c.requires.metadata (c.requires.tag, c.requires.args) in
    wrote_on_ok c.phase.result c.write_under_command.result WriteFault (AfterGrease (sent_text sent before) sent) c.phase.ensures.err c.write_under_command.ensures.bytes
    (λ bytes. after_grease sent before greased.first_is greased.second_is (record { tag = c.requires.command; args = args; body = bytes }))

pub returns-clause-write_fault : goal.returns-clause-write_fault
returns-clause-write_fault g c h =
    let sink = g.W.Sink in
    let stream = g.G.Rng.stream in
    let sent = under_command c.args.command.now (map string_bytes c.args.metadata.now) (stanza_of c.args.stanza.now) in
    let part = part_of sink.got sink.faults sink.plan c.send_grease.new.sink c.write_under_command.new.sink c.write_under_command.result (spelling sent) c.write_under_command.ensures.written in
    failed_behind sink.got sink.faults sink.plan sent (stream c.args.rng.now) c.args.sink.now c.send_grease.new.sink c.write_under_command.new.sink (stream c.send_grease.new.rng) c.in_ok-send_grease.ensures.sent
    (part_on_err c.phase.result c.write_under_command.result WriteFault c.phase.ensures.ok part h)
