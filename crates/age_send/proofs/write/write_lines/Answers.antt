use Rattle.std.proofs.Common.{[], ◌∷◌, ◌++◌, List, ℕ, take, drop, ap, subst, sym, ◌∙◌, append_assoc, refl, arith, rules}
use Rattle.std.proofs.lemmas.Result.{err_from_is_err_and}
use Rattle.age_format.specs.Outside.{WroteLess, WritesWhole}
use Rattle.age_format.specs.Stanza.{base64, body_lines}
use Rattle.age_send.proofs.Lines.{full_line, last_line}
use Rattle.age_format.proofs.Writing.{less_then, wrote_nothing, wrote_then, whole_last}
use Rattle.age_send.proofs.write.write_lines.Goals as goal

pub loop-rest-init : goal.loop-rest-init
loop-rest-init g c =
    let sink = g.W.Sink in
    ([], refl, wrote_nothing sink.got sink.faults sink.plan c.args.sink.now, c.requires)

pub returns-in_err-write_line : goal.returns-in_err-write_line
returns-in_err-write_line g c =
    let sink = g.W.Sink in
    let inv = c.loop-rest.invariant in
    let rest = c.loop-rest.rest.now in
    let line = base64 (take 48 rest) ++ 10 ∷ [] in
    let p = err_from_is_err_and c.from_residual.result c.from_residual.ensures.1 in
    let full = full_line rest (omega arith) in
    let part = less_then sink.got sink.faults sink.plan c.args.sink.now c.loop-rest.sink c.write_line.new.sink inv.0 line (body_lines (drop 48 rest)) inv.2 (rw c.split_at.ensures.front at c.in_err-write_line.ensures) in
    rw p.1 (subst (WroteLess sink.got sink.faults sink.plan c.args.sink.now c.write_line.new.sink) (sym (inv.1 ∙ ap (λ (t : List ℕ). inv.0 ++ t) full)) part)

pub loop-rest-preserved : goal.loop-rest-preserved
loop-rest-preserved g c =
    let sink = g.W.Sink in
    let inv = c.loop-rest.invariant in
    let rest = c.loop-rest.rest.now in
    let line = base64 (take 48 rest) ++ 10 ∷ [] in
    let full = full_line rest (omega arith) in
    let wrote = wrote_then sink.got sink.faults sink.plan c.args.sink.now c.loop-rest.sink c.write_line.new.sink inv.0 line inv.2 (rw c.split_at.ensures.front at c.in_ok-write_line.ensures) in (
      inv.0 ++ line,
      rw c.split_at.ensures.back (inv.1 ∙ (ap (λ (t : List ℕ). inv.0 ++ t) full ∙ sym (append_assoc inv.0 line (body_lines (drop 48 rest))))),
      wrote,
      search rules,
    )

pub returns : goal.returns
returns g c =
    let sink = g.W.Sink in
    let inv = c.loop-rest.invariant in
    let rest = c.loop-rest.rest.now in
    let whole = inv.1 ∙ ap (λ (t : List ℕ). inv.0 ++ t) (last_line rest (omega arith)) in
    subst (λ (t : List ℕ). WritesWhole sink.got sink.faults sink.plan c.args.sink.now c.write_line-2.new.sink c.write_line-2.result t) (sym whole)
    (whole_last sink.got sink.faults sink.plan c.args.sink.now c.loop-rest.sink c.write_line-2.new.sink c.write_line-2.result inv.0 (base64 rest ++ 10 ∷ []) inv.2 c.write_line-2.ensures)
