use Rattle.std.proofs.Common.{◌∷◌, map, take}
use Rattle.std.specs.List.{flat_map}
use Rattle.std.specs.String.{string_bytes}
use Rattle.age_format.specs.Outside.{Wrote}
use Rattle.age_send.proofs.write.write_args.Given as goal

-- the arguments so far were written
abbrev pub invariant-loop-arg : goal.invariant-loop-arg
invariant-loop-arg g l =
    let sink = g.W.Sink in
    Wrote sink.got sink.faults sink.plan l.fn.sink l.sink (flat_map (λ arg. 32 ∷ arg) (map string_bytes (take l.arg-index l.args)))
