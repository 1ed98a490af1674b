use Rattle.std.proofs.Common.{◌≡◌, ◌+◌, ◌-◌, ◌<◌, ◌++◌, ◌∷◌, [], ℕ, suc, List, length, take, sym, subst, ◌∙◌, arith}
use Rattle.std.proofs.Math.ListN.{set, length-set}
use Rattle.std.proofs.lemmas.List.{take_all, take_more_set}
use Rattle.std.specs.List.{AllByRecursion}
use Rattle.age_format.specs.Stanza.{IsVisible}
use Rattle.age_send.specs.Grease.{drawn_number}
use Rattle.age_send.proofs.Draws.{Drawing, drawing_more, drawing_all, all_more}
use Rattle.age_send.proofs.grease.draw_characters.Goals as goal

pub loop-character-preserved : goal.loop-character-preserved
loop-character-preserved g c =
    let rng = g.R.Rng in
    let inv = c.loop-character.invariant in
    let i = c.loop-character.character-index in
    let buffer = c.loop-character.buffer in
    let x = c.draw_number.result in
    let n = length c.args.buffer.now in
    let before = rng.stream c.args.rng.now in
    let now = rng.stream c.loop-character.rng in
    let inside : i < n = omega (arith, c.loop-character-test.true, inv.2) in
    let fewer : n - i ≡ suc (n - (i + 1)) = omega arith in
    let here = subst (λ (k : ℕ). Drawing (drawn_number 33 126) n before (take i buffer) k now) fewer inv.0 in
    let step = drawing_more (drawn_number 33 126) n before (take i buffer) (n - (i + 1)) now (rng.stream c.draw_number.new.rng) x here c.draw_number.ensures.value in
    let more : take (i + 1) (set buffer i x) ≡ take i buffer ++ x ∷ [] = take_more_set buffer i x (omega (arith, inv.2)) in
    let each = all_more IsVisible (take i buffer) x inv.1 (c.draw_number.ensures.low, c.draw_number.ensures.high) in (
      subst (λ (t : List ℕ). Drawing (drawn_number 33 126) n before t (n - (i + 1)) (rng.stream c.draw_number.new.rng)) (sym more) step,
      subst (λ (t : List ℕ). AllByRecursion IsVisible t) (sym more) each,
      length-set buffer i x ∙ inv.2,
    )

pub returns-clause-value : goal.returns-clause-value
returns-clause-value g c =
    let rng = g.R.Rng in
    let inv = c.loop-character.invariant in
    let i = c.loop-character.character-index in
    let buffer = c.loop-character.buffer in
    let n = length c.args.buffer.now in
    let before = rng.stream c.args.rng.now in
    let now = rng.stream c.loop-character.rng in
    let none : n - i ≡ 0 = omega (arith, c.loop-character-test.false, inv.2) in
    let whole : take i buffer ≡ buffer = take_all i buffer (omega (arith, c.loop-character-test.false, inv.2)) in
    let end = subst (λ (k : ℕ). Drawing (drawn_number 33 126) n before (take i buffer) k now) none inv.0 in
    drawing_all (drawn_number 33 126) n before buffer now (subst (λ (t : List ℕ). Drawing (drawn_number 33 126) n before t 0 now) whole end)
