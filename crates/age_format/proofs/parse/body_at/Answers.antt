use Rattle.std.proofs.Common.{◌≡◌, ◌≢◌, ◌+◌, ◌-◌, length, take, drop, sym, ◌∙◌, arith}
use Rattle.std.proofs.lemmas.List.{take_all, length-drop, length-take}
use Rattle.age_format.proofs.Steps.{lines_long, lines_more, lines_bad, lines_last, lines_next, lines_out, line_more}
use Rattle.age_format.proofs.parse.body_at.Goals as goal

pub returns-then-line-eq-LINE_LEN-clause-value : goal.returns-then-line-eq-LINE_LEN-clause-value
returns-then-line-eq-LINE_LEN-clause-value c =
    let text = c.in_ok-last.last.now in
    let line = take (c.loop-i.i - c.loop-i.start) (drop c.loop-i.start text) in
    sym (lines_long c.args.engine.now text c.loop-i.i c.loop-i.body.items line (omega arith) c.if-byte-ne10.true c.if-line-eq-LINE_LEN.true) ∙ c.loop-i.invariant.same

pub loop-i-preserved-then-byte-ne10 : goal.loop-i-preserved-then-byte-ne10
loop-i-preserved-then-byte-ne10 c =
    let text = c.in_ok-last.last.now in
    let line = take (c.loop-i.i - c.loop-i.start) (drop c.loop-i.start text) in
    let step = lines_more c.args.engine.now text c.loop-i.i c.loop-i.body.items line (omega arith) c.if-byte-ne10.true c.if-line-eq-LINE_LEN.false in
    let short = c.if-line-eq-LINE_LEN.false in
    let len : length line ≡ c.loop-i.i - c.loop-i.start = omega (arith, length-take (c.loop-i.i - c.loop-i.start) (drop c.loop-i.start text), length-drop c.loop-i.start text) in
    record {
      order = omega arith;
      within = omega arith;
      same = rw (line_more text c.loop-i.start c.loop-i.i (omega arith) (omega arith)) (sym step ∙ c.loop-i.invariant.same);
    }

pub returns-clause-value : goal.returns-clause-value
returns-clause-value c =
    let text = c.in_ok-last.last.now in
    sym (lines_out c.args.engine.now text c.loop-i.i c.loop-i.body.items (take (c.loop-i.i - c.loop-i.start) (drop c.loop-i.start text)) (omega arith)) ∙ c.loop-i.invariant.same

pub returns-then-not-branch-clause-value : goal.returns-then-not-branch-clause-value
returns-then-not-branch-clause-value c =
    let text = c.in_ok-last.last.now in
    let line = take (c.loop-i.i - c.loop-i.start) (drop c.loop-i.start text) in
    let bad = rw c.if-not-branch.true at c.in_ok-push_line.ensures.value in
    sym (lines_bad c.args.engine.now text c.loop-i.i c.loop-i.body.items line (omega arith) c.if-byte-ne10.false bad.0) ∙ c.loop-i.invariant.same

pub returns-then-line-lt-LINE_LEN-clause-value : goal.returns-then-line-lt-LINE_LEN-clause-value
returns-then-line-lt-LINE_LEN-clause-value c =
    let text = c.in_ok-last.last.now in
    let line = take (c.loop-i.i - c.loop-i.start) (drop c.loop-i.start text) in
    let good = rw c.if-not-branch.false at c.in_ok-push_line.ensures.value in
    let short : length line ≢ 64 = let h = c.if-line-lt-LINE_LEN.true in omega arith in
    let step = lines_last c.args.engine.now text c.loop-i.i c.loop-i.body.items line (omega arith) good.0 c.if-byte-ne10.false good.1 short in
    rw (good.2, take_all (length text - (c.loop-i.i + 1)) (drop (c.loop-i.i + 1) text) (omega (arith, length-drop (c.loop-i.i + 1) text))) (sym step ∙ c.loop-i.invariant.same)

pub loop-i-preserved : goal.loop-i-preserved
loop-i-preserved c =
    let text = c.in_ok-last.last.now in
    let line = take (c.loop-i.i - c.loop-i.start) (drop c.loop-i.start text) in
    let good = rw c.if-not-branch.false at c.in_ok-push_line.ensures.value in
    let full : length line ≡ 64 = let h = c.if-line-lt-LINE_LEN.false in omega (arith, length-take (c.loop-i.i - c.loop-i.start) (drop c.loop-i.start text)) in
    let step = lines_next c.args.engine.now text c.loop-i.i c.loop-i.body.items line (omega arith) good.0 c.if-byte-ne10.false good.1 full in
    let none : c.loop-i.i + 1 - (c.loop-i.i + 1) ≡ 0 = omega arith in
    record { order = omega arith; within = omega arith; same = rw (good.2, none) (sym step ∙ c.loop-i.invariant.same) }
