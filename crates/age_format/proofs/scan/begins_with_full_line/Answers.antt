use Rattle.std.proofs.Common.{◌≡◌, ◌≤◌, length, take, sym, ◌∙◌, arith}
use Rattle.std.proofs.lemmas.List.{length-take}
use Rattle.age_format.proofs.Scans.{full_line_begins}
use Rattle.age_format.proofs.scan.begins_with_full_line.Goals as goal

pub slice_bounds-are_characters-end : goal.slice_bounds-are_characters-end
slice_bounds-are_characters-end c =
    let text = c.args.text.now in
    let len : 65 ≤ length text = let h = c.if-text-lt-FULL_LINE_LEN.false in omega arith in
    let line : 64 ≡ length (take 64 text) = omega (arith, len, length-take 64 text) in
    line

pub returns-then-text-eq10 : goal.returns-then-text-eq10
returns-then-text-eq10 c all =
    let text = c.args.text.now in
    let len : 65 ≤ length text = let h = c.if-text-lt-FULL_LINE_LEN.false in omega arith in
    (len, full_line_begins text len c.if-text-eq10.true (sym c.are_characters.ensures ∙ all))
