use Rattle.std.proofs.Common.{◌∷◌, [], ℕ, List, ◌++◌, subst, append_assoc}
use Rattle.std.proofs.lemmas.Result.{err_from_is_err_and}
use Rattle.age_format.specs.Outside.{Writes}
use Rattle.output_lines.specs.Lines.{spaced}
use Rattle.age_format.proofs.Writing.{part_front, part_then, writes_last, wrote_then}
use Rattle.output_lines.proofs.lines.write_fault_line.Goals as goal

pub returns-in_err-write_all : goal.returns-in_err-write_all
returns-in_err-write_all g c =
    let sink = g.W.Sink in
    let p = err_from_is_err_and c.from_residual.result c.from_residual.ensures.1 in
    rw p.1 (part_front sink.got sink.faults sink.plan c.args.out.now c.write_all.new.sink (33 ∷ 32 ∷ []) (c.args.name.now ++ (spaced c.args.numbers.now ++ 10 ∷ [])) c.in_err-write_all.ensures)

pub returns-in_err-write_all-2 : goal.returns-in_err-write_all-2
returns-in_err-write_all-2 g c =
    let sink = g.W.Sink in
    let p = err_from_is_err_and c.from_residual-in_err-write_all-2.result c.from_residual-in_err-write_all-2.ensures.1 in
    rw p.1 (part_then sink.got sink.faults sink.plan c.args.out.now c.write_all.new.sink c.write_all-2.new.sink (33 ∷ 32 ∷ []) c.args.name.now (spaced c.args.numbers.now ++ 10 ∷ []) c.in_ok-write_all.ensures c.in_err-write_all-2.ensures)

pub returns-in_err-write_numbers : goal.returns-in_err-write_numbers
returns-in_err-write_numbers g c =
    let sink = g.W.Sink in
    let name = c.args.name.now in
    let p = err_from_is_err_and c.from_residual-in_err-write_numbers.result c.from_residual-in_err-write_numbers.ensures.1 in
    let first = wrote_then sink.got sink.faults sink.plan c.args.out.now c.write_all.new.sink c.write_all-2.new.sink (33 ∷ 32 ∷ []) name c.in_ok-write_all.ensures c.in_ok-write_all-2.ensures in
    rw p.1 (part_then sink.got sink.faults sink.plan c.args.out.now c.write_all-2.new.sink c.write_numbers.new.out (33 ∷ 32 ∷ name) (spaced c.args.numbers.now) (10 ∷ []) first c.in_err-write_numbers.ensures)

pub returns : goal.returns
returns g c =
    let sink = g.W.Sink in
    let name = c.args.name.now in
    let numbers = spaced c.args.numbers.now in
    let first = wrote_then sink.got sink.faults sink.plan c.args.out.now c.write_all.new.sink c.write_all-2.new.sink (33 ∷ 32 ∷ []) name c.in_ok-write_all.ensures c.in_ok-write_all-2.ensures in
    let second = wrote_then sink.got sink.faults sink.plan c.args.out.now c.write_all-2.new.sink c.write_numbers.new.out (33 ∷ 32 ∷ name) numbers first c.in_ok-write_numbers.ensures in
    subst (λ (t : List ℕ). Writes sink.got sink.faults sink.plan c.args.out.now c.write_all-3.new.sink c.write_all-3.result (33 ∷ 32 ∷ t)) (append_assoc name numbers (10 ∷ []))
    (writes_last sink.got sink.faults sink.plan c.args.out.now c.write_numbers.new.out c.write_all-3.new.sink c.write_all-3.result (33 ∷ 32 ∷ (name ++ numbers)) (10 ∷ []) second c.write_all-3.ensures)
