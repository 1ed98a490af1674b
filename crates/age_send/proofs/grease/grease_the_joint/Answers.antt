use Rattle.std.proofs.Common.{map}
use Rattle.std.specs.String.{string_bytes}
use Rattle.age_send.proofs.Greases.{grease_rest, grease_value}
use Rattle.age_send.proofs.grease.grease_the_joint.Goals as goal

pub returns-in_err-tag-clause-rest : goal.returns-in_err-tag-clause-rest
returns-in_err-tag-clause-rest g c =
    let stream = g.R.Rng.stream in
    grease_rest (stream c.args.rng.now) (stream c.draw_tag-tag.new.rng) (stream c.draw_arguments-args.new.rng) c.draw_tag-tag.ensures.rest c.draw_arguments-args.ensures.rest (stream c.draw_body-body.new.rng) c.draw_body-body.ensures.rest

pub returns-in_err-args-clause-rest : goal.returns-in_err-args-clause-rest
returns-in_err-args-clause-rest g c =
    let stream = g.R.Rng.stream in
    grease_rest (stream c.args.rng.now) (stream c.draw_tag-tag.new.rng) (stream c.draw_arguments-args.new.rng) c.draw_tag-tag.ensures.rest c.draw_arguments-args.ensures.rest (stream c.draw_body-body.new.rng) c.draw_body-body.ensures.rest

pub returns-in_err-body-clause-rest : goal.returns-in_err-body-clause-rest
returns-in_err-body-clause-rest g c =
    let stream = g.R.Rng.stream in
    grease_rest (stream c.args.rng.now) (stream c.draw_tag-tag.new.rng) (stream c.draw_arguments-args.new.rng) c.draw_tag-tag.ensures.rest c.draw_arguments-args.ensures.rest (stream c.draw_body-body.new.rng) c.draw_body-body.ensures.rest

pub returns-clause-rest : goal.returns-clause-rest
returns-clause-rest g c =
    let stream = g.R.Rng.stream in
    grease_rest (stream c.args.rng.now) (stream c.draw_tag-tag.new.rng) (stream c.draw_arguments-args.new.rng) c.draw_tag-tag.ensures.rest c.draw_arguments-args.ensures.rest (stream c.draw_body-body.new.rng) c.draw_body-body.ensures.rest

pub returns-clause-value : goal.returns-clause-value
returns-clause-value g c =
    let stream = g.R.Rng.stream in
    grease_value (stream c.args.rng.now) (stream c.draw_tag-tag.new.rng) (stream c.draw_arguments-args.new.rng) c.draw_tag-tag.ensures.rest c.draw_arguments-args.ensures.rest
    (string_bytes c.in_ok-tag.field-0) (map string_bytes c.in_ok-args.field-0.items) c.in_ok-body.field-0.items c.in_ok-tag.ensures.value c.in_ok-args.ensures.value c.in_ok-body.ensures.value
