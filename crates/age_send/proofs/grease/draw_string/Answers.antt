use Rattle.std.proofs.Common.{ℕ, arith}
use Rattle.std.specs.String.{string_bytes}
use Rattle.std.proofs.lemmas.List.{length-take}
use Rattle.age_send.proofs.Greases.{string_ok, string_rest}
use Rattle.age_send.proofs.grease.draw_string.Goals as goal

pub returns-clause-value : goal.returns-clause-value
returns-clause-value g c =
    let rng = g.R.Rng in
    string_ok string_bytes c.string_drawn.result _ c.draw_number.result (rng.stream c.args.rng.now) (rng.stream c.draw_number.new.rng) c.string_drawn.ensures.value (omega (arith, length-take {A = ℕ})) c.draw_number.ensures.value

pub returns-clause-rest : goal.returns-clause-rest
returns-clause-rest g c =
    let rng = g.R.Rng in
    string_rest _ c.draw_number.result (rng.stream c.args.rng.now) (rng.stream c.draw_number.new.rng) (rng.stream c.string_drawn.new.rng) c.string_drawn.ensures.rest (omega (arith, length-take {A = ℕ})) c.draw_number.ensures.value
