use Rattle.std.proofs.Common.{ℕ, Vec, Global, arith}
use Rattle.std.proofs.lemmas.List.{length-take}
use Rattle.age_send.proofs.Greases.{body_ok, body_rest}
use Rattle.age_send.proofs.grease.draw_body_onto.Goals as goal

pub returns-clause-value : goal.returns-clause-value
returns-clause-value g c =
    let rng = g.R.Rng in
    body_ok (λ (v : Vec ℕ Global). v.items) c.body_drawn.result _ c.draw_number.result (rng.stream c.args.rng.now) (rng.stream c.draw_number.new.rng) c.body_drawn.ensures.value (omega (arith, length-take {A = ℕ})) c.draw_number.ensures.value

pub returns-clause-rest : goal.returns-clause-rest
returns-clause-rest g c =
    let rng = g.R.Rng in
    body_rest _ c.draw_number.result (rng.stream c.args.rng.now) (rng.stream c.draw_number.new.rng) (rng.stream c.body_drawn.new.rng) c.body_drawn.ensures.rest (omega (arith, length-take {A = ℕ})) c.draw_number.ensures.value
