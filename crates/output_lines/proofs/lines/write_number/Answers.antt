use Rattle.std.proofs.Common.{◌∷◌, []}
use Rattle.std.specs.Prelude.{decimal}
use Rattle.std.proofs.lemmas.Result.{err_from_is_err_and}
use Rattle.age_format.proofs.Writing.{part_front}
use Rattle.output_lines.proofs.lines.write_number.Goals as goal

pub returns-in_err-write_all : goal.returns-in_err-write_all
returns-in_err-write_all g c =
    let sink = g.W.Sink in
    let p = err_from_is_err_and c.from_residual.result c.from_residual.ensures.1 in
    rw p.1 (part_front sink.got sink.faults sink.plan c.args.out.now c.write_all.new.sink (32 ∷ []) (decimal c.args.number) c.in_err-write_all.ensures)
