use Rattle.std.proofs.Common.{◌∷◌, ◌++◌, map}
use Rattle.std.specs.Prelude.{codes}
use Rattle.std.specs.List.{flat_map}
use Rattle.std.specs.String.{string_bytes}
use Rattle.std.proofs.lemmas.Result.{err_from_is_err_and}
use Rattle.age_format.specs.Stanza.{body_lines}
use Rattle.age_format.proofs.Writing.{less_front, less_last, wrote_then, whole_last}
use Rattle.age_send.proofs.write.write_parts.Goals as goal

pub returns-in_err-write_tag : goal.returns-in_err-write_tag
returns-in_err-write_tag g c =
    let sink = g.W.Sink in
    let front = codes "-> " ++ c.args.tag.now in
    let args = flat_map (λ arg. 32 ∷ arg) (map string_bytes c.args.args.now) in
    let p = err_from_is_err_and c.from_residual.result c.from_residual.ensures.1 in
    let behind_tag = less_front sink.got sink.faults sink.plan c.args.sink.now c.write_tag.new.sink front args c.in_err-write_tag.ensures in
    rw p.1 (less_front sink.got sink.faults sink.plan c.args.sink.now c.write_tag.new.sink (front ++ args) (10 ∷ body_lines c.args.body.now) behind_tag)

pub returns-in_err-write_args : goal.returns-in_err-write_args
returns-in_err-write_args g c =
    let sink = g.W.Sink in
    let front = codes "-> " ++ c.args.tag.now in
    let args = flat_map (λ arg. 32 ∷ arg) (map string_bytes c.args.args.now) in
    let p = err_from_is_err_and c.from_residual-in_err-write_args.result c.from_residual-in_err-write_args.ensures.1 in
    let behind_args = less_last sink.got sink.faults sink.plan c.args.sink.now c.write_tag.new.sink c.write_args.new.sink front args c.in_ok-write_tag.ensures c.in_err-write_args.ensures in
    rw p.1 (less_front sink.got sink.faults sink.plan c.args.sink.now c.write_args.new.sink (front ++ args) (10 ∷ body_lines c.args.body.now) behind_args)

pub returns : goal.returns
returns g c =
    let sink = g.W.Sink in
    let front = codes "-> " ++ c.args.tag.now in
    let args = flat_map (λ arg. 32 ∷ arg) (map string_bytes c.args.args.now) in
    let body = 10 ∷ body_lines c.args.body.now in
    let wrote = wrote_then sink.got sink.faults sink.plan c.args.sink.now c.write_tag.new.sink c.write_args.new.sink front args c.in_ok-write_tag.ensures c.in_ok-write_args.ensures in
    whole_last sink.got sink.faults sink.plan c.args.sink.now c.write_args.new.sink c.write_body.new.sink c.write_body.result (front ++ args) body wrote c.write_body.ensures.written
