use Rattle.std.proofs.Common.{[], ◌∷◌, ◌++◌, ◌∙◌, subst, append_assoc}
use Rattle.std.proofs.lemmas.Result.{err_from_is_err_and}
use Rattle.age_format.specs.Outside.{WrotePart, Writes}
use Rattle.age_send.proofs.Writing.{part_then, wrote_then, writes_last}
use Rattle.generated_mail.proofs.summary.write_value.Goals as goal

pub returns-in_err-write_all-2 : goal.returns-in_err-write_all-2
returns-in_err-write_all-2 g c =
    let sink = g.W.Sink in
    let p = err_from_is_err_and c.from_residual-in_err-write_all-2.result c.from_residual-in_err-write_all-2.ensures.1 in
    rw p.1 (part_then sink.got sink.faults sink.plan c.args.out.now c.write_all.new.sink c.write_all-2.new.sink c.args.name.now (32 ∷ []) (c.args.value.now ++ 10 ∷ []) c.in_ok-write_all.ensures c.in_err-write_all-2.ensures)

pub returns-in_err-write_all-3 : goal.returns-in_err-write_all-3
returns-in_err-write_all-3 g c =
    let sink = g.W.Sink in
    let name = c.args.name.now in
    let value = c.args.value.now in
    let p = err_from_is_err_and c.from_residual-in_err-write_all-3.result c.from_residual-in_err-write_all-3.ensures.1 in
    let first = wrote_then sink.got sink.faults sink.plan c.args.out.now c.write_all.new.sink c.write_all-2.new.sink name (32 ∷ []) c.in_ok-write_all.ensures c.in_ok-write_all-2.ensures in
    rw p.1 (subst (WrotePart sink.got sink.faults sink.plan c.args.out.now c.write_all-3.new.sink) (append_assoc name (32 ∷ []) (value ++ 10 ∷ []))
    (part_then sink.got sink.faults sink.plan c.args.out.now c.write_all-2.new.sink c.write_all-3.new.sink (name ++ 32 ∷ []) value (10 ∷ []) first c.in_err-write_all-3.ensures))

pub returns : goal.returns
returns g c =
    let sink = g.W.Sink in
    let name = c.args.name.now in
    let value = c.args.value.now in
    let first = wrote_then sink.got sink.faults sink.plan c.args.out.now c.write_all.new.sink c.write_all-2.new.sink name (32 ∷ []) c.in_ok-write_all.ensures c.in_ok-write_all-2.ensures in
    let second = wrote_then sink.got sink.faults sink.plan c.args.out.now c.write_all-2.new.sink c.write_all-3.new.sink (name ++ 32 ∷ []) value first c.in_ok-write_all-3.ensures in
    subst (Writes sink.got sink.faults sink.plan c.args.out.now c.write_all-4.new.sink c.write_all-4.result) (append_assoc (name ++ 32 ∷ []) value (10 ∷ []) ∙ append_assoc name (32 ∷ []) (value ++ 10 ∷ []))
    (writes_last sink.got sink.faults sink.plan c.args.out.now c.write_all-3.new.sink c.write_all-4.new.sink c.write_all-4.result ((name ++ 32 ∷ []) ++ value) (10 ∷ []) second c.write_all-4.ensures)
