use Rattle.std.proofs.Common.{◌≡◌, ◌∷◌, [], ◌++◌, ◌+◌, take, drop, ap, sym, subst, arith}
use Rattle.std.proofs.lemmas.List.{take_all}
use Rattle.std.proofs.lemmas.Result.{err_from_is_err_and}
use Rattle.hex.specs.Hex.{encode_lower}
use Rattle.age_format.specs.Outside.{Writes, WrotePart}
use Rattle.output_lines.specs.Lines.{lines}
use Rattle.output_lines.specs.private.Holding.{Hands}
use Rattle.output_lines.proofs.Writes.{hands_nothing, hands_part, hands_then, lines_split, lines_more, writes_held}
use Rattle.output_lines.proofs.lines.write_lines.Goals as goal

pub loop-i-init : goal.loop-i-init
loop-i-init g c =
    let sink = g.W.Sink in
    rw c.new-pending.ensures (hands_nothing sink.got sink.faults sink.plan c.args.out.now [])

pub returns-in_err-write_line : goal.returns-in_err-write_line
returns-in_err-write_line g c =
    let sink = g.W.Sink in
    let items = c.args.items.now in
    let i = c.loop-i.i in
    let line = encode_lower c.in-Some.item.now ++ 10 ∷ [] in
    let p = err_from_is_err_and c.from_residual.result c.from_residual.ensures.1 in
    let split = lines_split items i c.in-Some.item.now (sym c.in-Some.ensures) in
    let part = hands_part sink.got sink.faults sink.plan c.args.out.now c.loop-i.out c.write_line.new.out [] c.loop-i.pending (lines (take i items)) line (lines (drop (i + 1) items)) c.loop-i.invariant c.in_err-write_line.ensures in
    rw p.1 (subst (WrotePart sink.got sink.faults sink.plan c.args.out.now c.write_line.new.out) (sym split) part)

pub loop-i-preserved : goal.loop-i-preserved
loop-i-preserved g c =
    let sink = g.W.Sink in
    let items = c.args.items.now in
    let i = c.loop-i.i in
    let line = encode_lower c.in-Some.item.now ++ 10 ∷ [] in
    let more = lines_more items i c.in-Some.item.now (sym c.in-Some.ensures) in
    let handed = hands_then sink.got sink.faults sink.plan c.args.out.now c.loop-i.out c.write_line.new.out [] c.loop-i.pending c.write_line.new.pending (lines (take i items)) line c.loop-i.invariant c.in_ok-write_line.ensures in
    subst (Hands sink.got sink.faults sink.plan c.args.out.now c.write_line.new.out [] c.write_line.new.pending) (sym more) handed

pub returns : goal.returns
returns g c =
    let sink = g.W.Sink in
    let items = c.args.items.now in
    let i = c.loop-i.i in
    let whole : lines (take i items) ≡ lines items = ap lines (take_all i items (omega (arith, c.len-i-end.ensures, c.loop-i-test.false))) in
    subst (Writes sink.got sink.faults sink.plan c.args.out.now c.hand_over.new.out c.hand_over.result) whole
    (writes_held sink.got sink.faults sink.plan c.args.out.now c.loop-i.out c.hand_over.new.out c.hand_over.result [] c.loop-i.pending (lines (take i items)) c.loop-i.invariant c.hand_over.ensures.written)
