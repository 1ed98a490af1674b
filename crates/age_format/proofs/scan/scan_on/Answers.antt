use Rattle.std.proofs.Common.{◌≡◌, ◌+◌, ◌-◌, length, take, drop, sym, ◌∙◌, arith}
use Rattle.std.proofs.lemmas.List.{length-drop, take_all}
use Rattle.age_format.proofs.Scans.{seen_more, seen_full_line, seen_whole, seen_broken}
use Rattle.age_format.proofs.scan.scan_on.Goals as goal

pub loop-seen-preserved : goal.loop-seen-preserved
loop-seen-preserved c =
    seen_more c.args.text.now c.loop-seen.seen c.loop-seen.place c.loop-seen.invariant c.in-To.next c.loop-seen-test.true (sym c.step_at.ensures ∙ c.in-To.is)

pub loop-seen-preserved-then-begins_with_full_line : goal.loop-seen-preserved-then-begins_with_full_line
loop-seen-preserved-then-begins_with_full_line c =
    let text = c.args.text.now in
    let seen = c.loop-seen.seen in
    let rest = take (length text - seen) (drop seen text) in
    let whole : rest ≡ drop seen text = take_all (length text - seen) (drop seen text) (omega (arith, length-drop seen text)) in
    let full = c.begins_with_full_line.ensures c.if-begins_with_full_line.true in
    seen_full_line text seen c.loop-seen.place c.loop-seen.invariant (c.begins_line.ensures c.if-begins_line.true) rest whole full.0 full.1

pub returns-in-End-clause-whole : goal.returns-in-End-clause-whole
returns-in-End-clause-whole c e =
    (drop (c.loop-seen.seen + 1) c.args.text.now, seen_whole c.args.text.now c.loop-seen.seen c.loop-seen.place c.loop-seen.invariant c.loop-seen-test.true (sym c.step_at.ensures ∙ c.in-End.is))

pub returns-in-Bad-clause-broken : goal.returns-in-Bad-clause-broken
returns-in-Bad-clause-broken c e =
    seen_broken c.args.text.now c.loop-seen.seen c.loop-seen.place c.loop-seen.invariant c.loop-seen-test.true (sym c.step_at.ensures ∙ c.in-Bad.is)
