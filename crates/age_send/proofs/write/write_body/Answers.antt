use Rattle.std.proofs.Common.{[], ◌∷◌}
use Rattle.std.proofs.lemmas.Result.{err_from_is_err_and}
use Rattle.age_format.specs.Stanza.{body_lines}
use Rattle.age_format.proofs.Writing.{less_front, whole_last}
use Rattle.age_send.proofs.write.write_body.Goals as goal

pub returns-in_err-write_whole-clause-written : goal.returns-in_err-write_whole-clause-written
returns-in_err-write_whole-clause-written g c =
    let sink = g.W.Sink in
    let p = err_from_is_err_and c.from_residual.result c.from_residual.ensures.1 in
    rw p.1 (less_front sink.got sink.faults sink.plan c.args.sink.now c.write_whole.new.sink (10 ∷ []) (body_lines c.args.body.now) c.in_err-write_whole.ensures)

pub returns-clause-written : goal.returns-clause-written
returns-clause-written g c =
    let sink = g.W.Sink in
    whole_last sink.got sink.faults sink.plan c.args.sink.now c.write_whole.new.sink c.write_lines.new.sink c.write_lines.result (10 ∷ []) (body_lines c.args.body.now) c.in_ok-write_whole.ensures c.write_lines.ensures
