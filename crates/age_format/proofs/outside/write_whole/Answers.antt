use Rattle.std.proofs.Common.{◌≢◌, [], length, sym, ap, ◌∙◌}
use Rattle.std.proofs.lemmas.Bool.{eqb-false}
use Rattle.std.proofs.lemmas.Result.{err_from_is_err_and}
use Rattle.age_format.proofs.Writing.{less_left}
use Rattle.age_format.proofs.outside.write_whole.Goals as goal

pub returns-in_err-n : goal.returns-in_err-n
returns-in_err-n g c =
    let sink = g.W.Sink in
    let inv = c.loop-rest.invariant in
    let failed = c.in_err-n.ensures in
    let rest = c.loop-rest.rest.now in
    let p = err_from_is_err_and c.from_residual.result c.from_residual.ensures.1 in
    let some : rest ≢ [] = λ e. eqb-false (length rest) 0 (sym c.is_empty.ensures ∙ c.loop-rest-test.true) (ap length e) in
    rw p.1 (less_left sink.got sink.faults sink.plan c.args.sink.now c.loop-rest.sink c.write.new.self c.args.bytes.now rest inv.gained inv.no_fault inv.plan some failed.failed failed.untaken failed.plan failed.faults)
