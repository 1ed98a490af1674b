use Rattle.std.proofs.Common.{[], take}
use Rattle.output_lines.specs.Lines.{lines}
use Rattle.output_lines.specs.private.Holding.{Hands}
use Rattle.output_lines.proofs.lines.write_lines.Given as goal

-- the items so far were written or are held
abbrev pub invariant-loop-i : goal.invariant-loop-i
invariant-loop-i g l =
    let sink = g.W.Sink in
    Hands sink.got sink.faults sink.plan l.fn.out l.out [] l.pending (lines (take l.i l.items))
