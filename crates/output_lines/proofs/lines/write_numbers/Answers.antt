use Rattle.std.proofs.Common.{◌∷◌, ◌+◌, take, drop, get_or, sym, subst}
use Rattle.std.specs.Prelude.{decimal}
use Rattle.std.proofs.lemmas.Result.{err_from_is_err_and}
use Rattle.age_format.specs.Outside.{Wrote, WrotePart}
use Rattle.output_lines.specs.Lines.{spaced}
use Rattle.age_format.proofs.Writing.{part_then, wrote_nothing, wrote_then}
use Rattle.output_lines.proofs.Writes.{spaced_split, spaced_more}
use Rattle.output_lines.proofs.lines.write_numbers.Goals as goal

pub loop-number-init : goal.loop-number-init
loop-number-init g c = let sink = g.W.Sink in wrote_nothing sink.got sink.faults sink.plan c.args.out.now

pub returns-in_err-write_number : goal.returns-in_err-write_number
returns-in_err-write_number g c =
    let sink = g.W.Sink in
    let numbers = c.args.numbers.now in
    let i = c.loop-number.number-index in
    let number = 32 ∷ decimal (get_or numbers i 0) in
    let p = err_from_is_err_and c.from_residual.result c.from_residual.ensures.1 in
    let part = part_then sink.got sink.faults sink.plan c.args.out.now c.loop-number.out c.write_number.new.out (spaced (take i numbers)) number (spaced (drop (i + 1) numbers)) c.loop-number.invariant c.in_err-write_number.ensures in
    rw p.1 (subst (WrotePart sink.got sink.faults sink.plan c.args.out.now c.write_number.new.out) (sym (spaced_split numbers i c.loop-number-test.true)) part)

pub loop-number-preserved : goal.loop-number-preserved
loop-number-preserved g c =
    let sink = g.W.Sink in
    let numbers = c.args.numbers.now in
    let i = c.loop-number.number-index in
    let number = 32 ∷ decimal (get_or numbers i 0) in
    let gained = wrote_then sink.got sink.faults sink.plan c.args.out.now c.loop-number.out c.write_number.new.out (spaced (take i numbers)) number c.loop-number.invariant c.in_ok-write_number.ensures in
    subst (Wrote sink.got sink.faults sink.plan c.args.out.now c.write_number.new.out) (sym (spaced_more numbers i c.loop-number-test.true)) gained
