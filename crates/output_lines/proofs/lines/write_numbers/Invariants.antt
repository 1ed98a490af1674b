use Rattle.std.proofs.Common.{take}
use Rattle.age_format.specs.Outside.{Wrote}
use Rattle.output_lines.specs.Lines.{spaced}
use Rattle.output_lines.proofs.lines.write_numbers.Given as goal

-- the numbers so far were written
abbrev pub invariant-loop-number : goal.invariant-loop-number
invariant-loop-number g l =
    let sink = g.W.Sink in
    Wrote sink.got sink.faults sink.plan l.fn.out l.out (spaced (take l.number-index l.numbers))
