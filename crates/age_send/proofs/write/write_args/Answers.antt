use Rattle.std.proofs.Common.{◌+◌, ◌∷◌, map, take, drop, sym, subst, arith}
use Rattle.std.specs.List.{flat_map}
use Rattle.std.specs.String.{string_bytes}
use Rattle.std.proofs.lemmas.Result.{err_from_is_err_and}
use Rattle.age_format.specs.Outside.{WroteLess}
use Rattle.age_send.proofs.Arguments.{args_split}
use Rattle.age_format.proofs.Writing.{less_then}
use Rattle.age_send.proofs.write.write_args.Goals as goal

pub returns-in_err-write_arg : goal.returns-in_err-write_arg
returns-in_err-write_arg g c =
    let sink = g.W.Sink in
    let args = c.args.args.now in
    let i = c.loop-arg.arg-index in
    let front = flat_map (λ arg. 32 ∷ arg) (map string_bytes (take i args)) in
    let here = 32 ∷ string_bytes c.arg-item.result in
    let behind = flat_map (λ arg. 32 ∷ arg) (map string_bytes (drop (i + 1) args)) in
    let p = err_from_is_err_and c.from_residual.result c.from_residual.ensures.1 in
    let part = less_then sink.got sink.faults sink.plan c.args.sink.now c.loop-arg.sink c.write_arg.new.sink front here behind c.loop-arg.invariant (rw c.as_str.ensures.value at c.in_err-write_arg.ensures) in
    rw p.1 (subst (WroteLess sink.got sink.faults sink.plan c.args.sink.now c.write_arg.new.sink) (sym (args_split string_bytes args i c.arg-item.result (omega arith) c.arg-item.is)) part)
