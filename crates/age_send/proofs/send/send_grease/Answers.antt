use Rattle.std.proofs.Common.{◌≡◌, Err, ap}
use Rattle.std.proofs.lemmas.Result.{err_from_is_err_and}
use Rattle.age_format.specs.declared.error.PhaseError.TheVariants.{WriteFault}
use Rattle.age_send.proofs.Sends.{grease_failed_first, grease_failed_second}
use Rattle.age_send.proofs.send.send_grease.Goals as goal

pub returns-in_err-send_roll-clause-write_fault : goal.returns-in_err-send_roll-clause-write_fault
returns-in_err-send_roll-clause-write_fault g c h =
    let sink = g.W.Sink in
    let stream = g.G.Rng.stream in
    let p = err_from_is_err_and c.from_residual.result c.from_residual.ensures.1 in
    let is : c.in_err-send_roll.field-0.0 ≡ WriteFault = cc (p.1, p.2, h) in
    grease_failed_first sink.got sink.faults sink.plan c.args.sink.now c.send_roll.new.sink (stream c.args.rng.now) (stream c.send_roll.new.rng) (c.in_err-send_roll.ensures.write_fault (ap Err is))

pub returns-clause-write_fault : goal.returns-clause-write_fault
returns-clause-write_fault g c h =
    let sink = g.W.Sink in
    let stream = g.G.Rng.stream in
    grease_failed_second sink.got sink.faults sink.plan c.args.sink.now c.send_roll.new.sink c.send_roll-2.new.sink (stream c.args.rng.now) (stream c.send_roll.new.rng) (stream c.send_roll-2.new.rng) c.in_ok-send_roll.ensures.sent
    (c.send_roll-2.ensures.write_fault h)
