use Rattle.std.proofs.Common.{◌∷◌, ◌++◌, map}
use Rattle.std.specs.Prelude.{codes}
use Rattle.std.specs.List.{flat_map}
use Rattle.std.specs.String.{string_bytes}
use Rattle.std.proofs.lemmas.Result.{err_from_is_err_and}
use Rattle.age_format.specs.Stanza.{body_lines}
use Rattle.age_send.proofs.Sends.{on_ok}
use Rattle.age_format.proofs.Writing.{less_front, less_last, wrote_then, whole_last}
use Rattle.age_send.proofs.write.write_under_command.Goals as goal

pub returns-in_err-write_tag-clause-written : goal.returns-in_err-write_tag-clause-written
returns-in_err-write_tag-clause-written g c =
    let sink = g.W.Sink in
    let front = codes "-> " ++ c.args.command.now in
    let args = flat_map (λ arg. 32 ∷ arg) (map string_bytes c.args.metadata.now ++ string_bytes c.args.stanza.now.tag ∷ map string_bytes c.args.stanza.now.args.items) in
    let p = err_from_is_err_and c.from_residual.result c.from_residual.ensures.1 in
    let behind_tag = less_front sink.got sink.faults sink.plan c.args.sink.now c.write_tag.new.sink front args c.in_err-write_tag.ensures in
    rw p.1 (less_front sink.got sink.faults sink.plan c.args.sink.now c.write_tag.new.sink (front ++ args) (10 ∷ body_lines c.args.stanza.now.body.items) behind_tag)

pub returns-in_err-write_metadata-clause-written : goal.returns-in_err-write_metadata-clause-written
returns-in_err-write_metadata-clause-written g c =
    let sink = g.W.Sink in
    let front = codes "-> " ++ c.args.command.now in
    let args = flat_map (λ arg. 32 ∷ arg) (map string_bytes c.args.metadata.now ++ string_bytes c.args.stanza.now.tag ∷ map string_bytes c.args.stanza.now.args.items) in
    let p = err_from_is_err_and c.from_residual-in_err-write_metadata.result c.from_residual-in_err-write_metadata.ensures.1 in
    let behind_args = less_last sink.got sink.faults sink.plan c.args.sink.now c.write_tag.new.sink c.write_metadata.new.sink front args c.in_ok-write_tag.ensures c.in_err-write_metadata.ensures in
    rw p.1 (less_front sink.got sink.faults sink.plan c.args.sink.now c.write_metadata.new.sink (front ++ args) (10 ∷ body_lines c.args.stanza.now.body.items) behind_args)

pub returns-clause-written : goal.returns-clause-written
returns-clause-written g c =
    let sink = g.W.Sink in
    let front = codes "-> " ++ c.args.command.now in
    let args = flat_map (λ arg. 32 ∷ arg) (map string_bytes c.args.metadata.now ++ string_bytes c.args.stanza.now.tag ∷ map string_bytes c.args.stanza.now.args.items) in
    let body = 10 ∷ body_lines c.args.stanza.now.body.items in
    let wrote = wrote_then sink.got sink.faults sink.plan c.args.sink.now c.write_tag.new.sink c.write_metadata.new.sink front args c.in_ok-write_tag.ensures c.in_ok-write_metadata.ensures in
    whole_last sink.got sink.faults sink.plan c.args.sink.now c.write_metadata.new.sink c.write_body.new.sink c.write_body.result (front ++ args) body wrote (rw c.as_slice.ensures.value at c.write_body.ensures.written)

pub returns-clause-bytes : goal.returns-clause-bytes
returns-clause-bytes g c = on_ok c.write_body.result (rw c.as_slice.ensures.value at c.write_body.ensures.bytes)
