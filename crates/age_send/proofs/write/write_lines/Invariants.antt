use Rattle.std.proofs.Common.{◌≡◌, ◌++◌, List, ℕ, length}
use Rattle.age_format.specs.Outside.{Wrote}
use Rattle.age_format.specs.Stanza.{body_lines}
use Rattle.age_send.proofs.write.write_lines.Given as goal

-- the lines so far were written, and those of the rest are left
abbrev pub invariant-loop-rest : goal.invariant-loop-rest
invariant-loop-rest g l =
    let sink = g.W.Sink in
    (front : List ℕ) × (body_lines l.body ≡ front ++ body_lines l.rest) × Wrote sink.got sink.faults sink.plan l.fn.sink l.sink front
    × (length l.buffer ≡ 65)

abbrev pub decreases-loop-rest : goal.decreases-loop-rest
decreases-loop-rest g l = length l.rest
