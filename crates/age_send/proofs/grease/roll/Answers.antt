use Rattle.std.proofs.Common.{Option, Some, sym, ap, ◌∙◌, arith}
use Rattle.std.specs.Prelude.{is_some}
use Rattle.age_format.specs.Stanza.{Stanza}
use Rattle.age_format.proofs.Refusals.{on_err}
use Rattle.age_send.specs.Grease.{Drawn}
use Rattle.age_send.proofs.Greases.{roll_none, roll_some}
use Rattle.age_send.proofs.grease.roll.Goals as goal

pub returns-then-draw_number-ge-CHANCE-clause-value : goal.returns-then-draw_number-ge-CHANCE-clause-value
returns-then-draw_number-ge-CHANCE-clause-value g c =
    let stream = g.R.Rng.stream in
    let rolled = roll_none c.draw_number.result (stream c.args.rng.now) (stream c.draw_number.new.rng) c.draw_number.ensures.value (omega arith) in
    sym (ap (λ (d : Drawn (Option Stanza)). d.0) rolled)

pub returns-then-draw_number-ge-CHANCE-clause-rest : goal.returns-then-draw_number-ge-CHANCE-clause-rest
returns-then-draw_number-ge-CHANCE-clause-rest g c =
    let stream = g.R.Rng.stream in
    let rolled = roll_none c.draw_number.result (stream c.args.rng.now) (stream c.draw_number.new.rng) c.draw_number.ensures.value (omega arith) in
    sym (ap (λ (d : Drawn (Option Stanza)). d.1) rolled)

pub returns-in_err-grease_the_joint-clause-rest : goal.returns-in_err-grease_the_joint-clause-rest
returns-in_err-grease_the_joint-clause-rest g c =
    let stream = g.R.Rng.stream in
    let rolled = roll_some c.draw_number.result (stream c.args.rng.now) (stream c.draw_number.new.rng) c.draw_number.ensures.value (omega arith) in
    c.grease_the_joint.ensures.rest ∙ sym (ap (λ (d : Drawn (Option Stanza)). d.1) rolled)

pub returns-in_err-grease_the_joint-clause-memory : goal.returns-in_err-grease_the_joint-clause-memory
returns-in_err-grease_the_joint-clause-memory g c =
    let stream = g.R.Rng.stream in
    let rolled = roll_some c.draw_number.result (stream c.args.rng.now) (stream c.draw_number.new.rng) c.draw_number.ensures.value (omega arith) in
    on_err c.from_residual.result (ap (λ (d : Drawn (Option Stanza)). is_some d.0) rolled)

pub returns-clause-value : goal.returns-clause-value
returns-clause-value g c =
    let stream = g.R.Rng.stream in
    let rolled = roll_some c.draw_number.result (stream c.args.rng.now) (stream c.draw_number.new.rng) c.draw_number.ensures.value (omega arith) in
    ap Some c.in_ok-grease_the_joint.ensures.value ∙ sym (ap (λ (d : Drawn (Option Stanza)). d.0) rolled)

pub returns-clause-rest : goal.returns-clause-rest
returns-clause-rest g c =
    let stream = g.R.Rng.stream in
    let rolled = roll_some c.draw_number.result (stream c.args.rng.now) (stream c.draw_number.new.rng) c.draw_number.ensures.value (omega arith) in
    c.grease_the_joint.ensures.rest ∙ sym (ap (λ (d : Drawn (Option Stanza)). d.1) rolled)
