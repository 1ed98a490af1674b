use Rattle.std.proofs.Common.{◌≡◌, ◌∷◌, [], ◌++◌, List, ℕ, take, drop, refl, ap, sym, subst, ◌∙◌, append_assoc}
use Rattle.std.proofs.lemmas.List.{append-nil}
use Rattle.std.proofs.lemmas.Result.{err_from_is_err_and}
use Rattle.hex.specs.Hex.{encode_lower}
use Rattle.age_format.specs.Outside.{WrotePart}
use Rattle.output_lines.specs.private.Holding.{Hands}
use Rattle.output_lines.proofs.Writes.{digits_all, digits_more, line_split, hands_nothing, hands_part, hands_pushed, hands_then}
use Rattle.output_lines.proofs.lines.write_line.Goals as goal

pub loop-rest-init : goal.loop-rest-init
loop-rest-init g c =
    let sink = g.W.Sink in
    ([], refl, hands_nothing sink.got sink.faults sink.plan c.args.out.now c.args.pending.now)

pub returns-in_err-write_digits : goal.returns-in_err-write_digits
returns-in_err-write_digits g c =
    let sink = g.W.Sink in
    let inv = c.loop-rest.invariant in
    let rest = c.loop-rest.rest.now in
    let n = c.min.result in
    let held = c.args.pending.now in
    let wrote = c.in_err-write_digits.ensures in
    let p = err_from_is_err_and c.from_residual.result c.from_residual.ensures.1 in
    let line = line_split (encode_lower c.args.item.now) inv.0 rest n inv.1 in
    let part = hands_part sink.got sink.faults sink.plan c.args.out.now c.loop-rest.out c.write_digits.new.out held c.loop-rest.pending inv.0 (encode_lower (take n rest)) (encode_lower (drop n rest) ++ 10 ∷ []) inv.2 (rw c.split_at.ensures.front at wrote) in
    rw p.1 (subst (λ (t : List ℕ). WrotePart sink.got sink.faults sink.plan c.args.out.now c.write_digits.new.out (held ++ t)) (sym line) part)

pub loop-rest-preserved : goal.loop-rest-preserved
loop-rest-preserved g c =
    let sink = g.W.Sink in
    let inv = c.loop-rest.invariant in
    let wrote = c.in_ok-write_digits.ensures in
    let more = digits_more sink.got sink.faults sink.plan c.args.out.now c.loop-rest.out c.write_digits.new.out c.min.result c.args.pending.now c.loop-rest.pending c.write_digits.new.pending (encode_lower c.args.item.now) inv.0 c.loop-rest.rest.now inv.1 inv.2 (rw c.split_at.ensures.front at wrote) in
    (more.0, rw c.split_at.ensures.back more.1, more.2)

pub returns-in_err-make_room : goal.returns-in_err-make_room
returns-in_err-make_room g c =
    let sink = g.W.Sink in
    let inv = c.loop-rest.invariant in
    let held = c.args.pending.now in
    let back = encode_lower c.loop-rest.rest.now ++ 10 ∷ [] in
    let p = err_from_is_err_and c.from_residual-in_err-make_room.result c.from_residual-in_err-make_room.ensures.1 in
    let line : encode_lower c.args.item.now ++ 10 ∷ [] ≡ inv.0 ++ back = ap (λ (t : List ℕ). t ++ 10 ∷ []) inv.1 ∙ append_assoc inv.0 (encode_lower c.loop-rest.rest.now) (10 ∷ []) in
    let part = hands_part sink.got sink.faults sink.plan c.args.out.now c.loop-rest.out c.make_room.new.out held c.loop-rest.pending inv.0 [] back inv.2 c.in_err-make_room.ensures.handed in
    rw p.1 (subst (λ (t : List ℕ). WrotePart sink.got sink.faults sink.plan c.args.out.now c.make_room.new.out (held ++ t)) (sym line) part)

pub returns : goal.returns
returns g c =
    let sink = g.W.Sink in
    let before = c.args.out.now in
    let now = c.make_room.new.out in
    let inv = c.loop-rest.invariant in
    let held = c.args.pending.now in
    let left = c.make_room.new.self in
    let all = append-nil inv.0 ∙ digits_all (encode_lower c.args.item.now) inv.0 c.loop-rest.rest.now c.is_empty.result c.is_empty.ensures c.loop-rest-test.false inv.1 in
    let handed = hands_then sink.got sink.faults sink.plan before c.loop-rest.out now held c.loop-rest.pending left inv.0 [] inv.2 c.in_ok-make_room.ensures.handed in
    let pushed = hands_pushed sink.got sink.faults sink.plan before now held left (inv.0 ++ []) (10 ∷ []) handed in
    let line = subst (λ (t : List ℕ). Hands sink.got sink.faults sink.plan before now held (left ++ 10 ∷ []) (t ++ 10 ∷ [])) all pushed in
    subst (λ (t : List ℕ). Hands sink.got sink.faults sink.plan before now held t (encode_lower c.args.item.now ++ 10 ∷ [])) (sym c.push.ensures) line
