use Rattle.std.proofs.Common.{◌≡◌, ◌++◌, List, ℕ, length}
use Rattle.hex.specs.Hex.{encode_lower}
use Rattle.output_lines.specs.private.Holding.{Hands}
use Rattle.output_lines.proofs.lines.write_line.Given as goal

-- the digits so far were written or are held, and those of the rest are left
abbrev pub invariant-loop-rest : goal.invariant-loop-rest
invariant-loop-rest g l =
    let sink = g.W.Sink in
    (done : List ℕ) × (encode_lower l.item ≡ done ++ encode_lower l.rest) × Hands sink.got sink.faults sink.plan l.fn.out l.out l.fn.pending l.pending done

abbrev pub decreases-loop-rest : goal.decreases-loop-rest
decreases-loop-rest g l = length l.rest
