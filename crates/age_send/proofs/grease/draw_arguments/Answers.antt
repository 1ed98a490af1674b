use Rattle.std.proofs.Common.{◌≡◌, ◌+◌, ◌-◌, ◌++◌, ◌∷◌, [], ℕ, suc, List, Vec, String, Global, map, sym, ap, subst, ◌∙◌, arith}
use Rattle.std.specs.Prelude.{IfOk}
use Rattle.std.specs.String.{string_bytes}
use Rattle.rand_core.specs.Stream.{Stream}
use Rattle.age_send.specs.Grease.{Drawn, drawn_string}
use Rattle.age_send.proofs.Draws.{Drawing, drawing_all, drawing_more, ok_more}
use Rattle.age_send.proofs.Greases.{arguments_are}
use Rattle.age_send.proofs.grease.draw_arguments.Goals as goal

pub loop-preserved : goal.loop-preserved
loop-preserved g c =
    let rng = g.R.Rng in
    let inv = c.loop.invariant in
    let n = c.draw_number-count.result in
    let left = n - (c.loop.counter + 1) in
    let before = rng.stream c.draw_number-count.new.rng in
    let now = rng.stream c.loop.rng in
    let next = rng.stream c.draw_string.new.rng in
    let x : List ℕ = (drawn_string now).0 in
    let fewer : n - c.loop.counter ≡ suc left = omega arith in
    let here = subst (λ (k : ℕ). Drawing drawn_string n before inv.0 k now) fewer inv.1 in
    let drawn : (x, next) ≡ drawn_string now = ap (λ (s : Stream). (x, s)) c.draw_string.ensures.rest in (
      inv.0 ++ x ∷ [],
      drawing_more drawn_string n before inv.0 left now next x here drawn,
      ok_more (λ (v : Vec (String Global) Global). v.items) string_bytes c.with_string-strings.result c.loop.strings c.draw_string.result inv.0 x c.with_string-strings.ensures inv.2 c.draw_string.ensures.value,
    )

pub returns-clause-value : goal.returns-clause-value
returns-clause-value g c =
    let rng = g.R.Rng in
    let inv = c.loop.invariant in
    let n = c.draw_number-count.result in
    let before = rng.stream c.draw_number-count.new.rng in
    let now = rng.stream c.loop.rng in
    let none : n - c.loop.counter ≡ 0 = omega arith in
    let all = drawing_all drawn_string n before inv.0 now (subst (λ (k : ℕ). Drawing drawn_string n before inv.0 k now) none inv.1) in
    let are = all ∙ sym (arguments_are n (rng.stream c.args.rng.now) before c.draw_number-count.ensures.value) in
    subst (λ (t : List (List ℕ)). IfOk c.loop.strings (λ v. map string_bytes v.items ≡ t)) (ap (λ (d : Drawn (List (List ℕ))). d.0) are) inv.2

pub returns-clause-rest : goal.returns-clause-rest
returns-clause-rest g c =
    let rng = g.R.Rng in
    let inv = c.loop.invariant in
    let n = c.draw_number-count.result in
    let before = rng.stream c.draw_number-count.new.rng in
    let now = rng.stream c.loop.rng in
    let none : n - c.loop.counter ≡ 0 = omega arith in
    let all = drawing_all drawn_string n before inv.0 now (subst (λ (k : ℕ). Drawing drawn_string n before inv.0 k now) none inv.1) in
    ap (λ (d : Drawn (List (List ℕ))). d.1) (all ∙ sym (arguments_are n (rng.stream c.args.rng.now) before c.draw_number-count.ensures.value))
