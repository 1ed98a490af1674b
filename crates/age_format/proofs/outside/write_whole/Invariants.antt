use Rattle.std.proofs.Common.{◌≡◌, ◌++◌, List, ℕ, length}
use Rattle.std.specs.Prelude.{IfSome, Some}
use Rattle.age_format.proofs.outside.write_whole.Given as goal

-- what was written so far is the front of the bytes, and the rest is left
abbrev pub invariant-loop-rest : goal.invariant-loop-rest
invariant-loop-rest g l =
    let sink = g.W.Sink in
    record {
      gained : IfSome (sink.got l.fn.sink) (λ got. (done : List ℕ) × (l.bytes ≡ done ++ l.rest) × (sink.got l.sink ≡ Some (got ++ done)));
      plan : sink.plan l.sink ≡ sink.plan l.fn.sink;
      no_fault : sink.faults l.sink ≡ sink.faults l.fn.sink;
    }

abbrev pub decreases-loop-rest : goal.decreases-loop-rest
decreases-loop-rest g l = length l.rest
