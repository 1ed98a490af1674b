use Rattle.std.proofs.Common.{◌≡◌, ◌-◌, ◌<◌, [], length, take, drop, refl, subst, sym, ◌∙◌, arith}
use Rattle.std.proofs.lemmas.List.{length-take, length-drop, take_all}
use Rattle.age_format.specs.Stanza.{IsBytes}
use Rattle.age_format.specs.private.Parse.{lines_from}
use Rattle.age_format.proofs.Lines.{IsBytes-drop, full_line_front}
use Rattle.age_format.proofs.parse.push_full_lines.Goals as goal

pub loop-rest-init : goal.loop-rest-init
loop-rest-init c = record { bytes = λ i. let fits = c.type_inv.text i in omega (arith, fits); same = refl }

pub slice_bounds-push_line-end : goal.slice_bounds-push_line-end
slice_bounds-push_line-end c =
    let rest = c.loop-rest.rest.now in
    let len : 64 < length rest = let h = c.loop-rest-test.true in omega arith in
    let line : 64 ≡ length (take 64 rest) = omega (arith, len, length-take 64 rest) in
    line

pub loop-rest-preserved : goal.loop-rest-preserved
loop-rest-preserved c =
    let engine = c.args.engine.now in
    let rest = c.loop-rest.rest.now in
    let before = c.loop-rest.body.items in
    let len : 64 < length rest = let h = c.loop-rest-test.true in omega arith in
    let good = rw c.if-not-branch.false at c.in_ok-push_line.ensures.value in
    let whole : take (length rest - 65) (drop 65 rest) ≡ drop 65 rest = take_all (length rest - 65) (drop 65 rest) (omega (arith, length-drop 65 rest)) in
    let step = full_line_front engine c.requires rest before good.0 c.loop-rest.invariant.bytes len c.if-rest-eq10.true good.1 in
    let same : lines_from engine c.push_line.new.body.items [] (take (length rest - 65) (drop 65 rest)) ≡ lines_from engine c.args.body.now.items [] c.args.text.now =
    rw (good.2, whole) (step ∙ c.loop-rest.invariant.same) in
    let bytes : IsBytes (take (length rest - 65) (drop 65 rest)) = subst IsBytes (sym whole) (IsBytes-drop 65 rest c.loop-rest.invariant.bytes) in
    record { bytes = bytes; same = same }
