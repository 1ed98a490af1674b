use Rattle.std.proofs.Common.{[], ◌∷◌}
use Rattle.std.proofs.lemmas.Result.{err_from_is_err_and}
use Rattle.age_format.proofs.Writing.{less_front, whole_last}
use Rattle.age_send.proofs.write.write_arg.Goals as goal

pub returns-in_err-write_whole : goal.returns-in_err-write_whole
returns-in_err-write_whole g c =
    let sink = g.W.Sink in
    let p = err_from_is_err_and c.from_residual.result c.from_residual.ensures.1 in
    rw p.1 (less_front sink.got sink.faults sink.plan c.args.sink.now c.write_whole.new.sink (32 ∷ []) c.args.arg.now c.in_err-write_whole.ensures)

pub returns : goal.returns
returns g c =
    let sink = g.W.Sink in
    whole_last sink.got sink.faults sink.plan c.args.sink.now c.write_whole.new.sink c.write_whole-2.new.sink c.write_whole-2.result (32 ∷ []) c.args.arg.now c.in_ok-write_whole.ensures (rw c.as_bytes.ensures.value at c.write_whole-2.ensures)
