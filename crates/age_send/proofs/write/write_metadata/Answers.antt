use Rattle.std.proofs.Common.{◌∷◌, ◌++◌, List, ℕ, map, sym, subst, append_assoc, ◌∙◌}
use Rattle.std.specs.String.{string_bytes}
use Rattle.std.proofs.lemmas.Result.{err_from_is_err_and}
use Rattle.age_format.specs.Outside.{WroteLess, WritesWhole}
use Rattle.age_send.proofs.Arguments.{args_between, args_text}
use Rattle.age_format.proofs.Writing.{less_front, less_then, wrote_then, whole_last}
use Rattle.age_send.proofs.write.write_metadata.Goals as goal

pub returns-in_err-write_args : goal.returns-in_err-write_args
returns-in_err-write_args g c =
    let sink = g.W.Sink in
    let front = map string_bytes c.args.metadata.now in
    let tag = string_bytes c.args.stanza.now.tag in
    let args = map string_bytes c.args.stanza.now.args.items in
    let p = err_from_is_err_and c.from_residual.result c.from_residual.ensures.1 in
    let part = less_front sink.got sink.faults sink.plan c.args.sink.now c.write_args.new.sink (args_text front) ((32 ∷ tag) ++ args_text args) c.in_err-write_args.ensures in
    rw p.1 (subst (WroteLess sink.got sink.faults sink.plan c.args.sink.now c.write_args.new.sink) (sym (args_between front tag args)) part)

pub returns-in_err-write_arg : goal.returns-in_err-write_arg
returns-in_err-write_arg g c =
    let sink = g.W.Sink in
    let front = map string_bytes c.args.metadata.now in
    let tag = string_bytes c.args.stanza.now.tag in
    let args = map string_bytes c.args.stanza.now.args.items in
    let p = err_from_is_err_and c.from_residual-in_err-write_arg.result c.from_residual-in_err-write_arg.ensures.1 in
    let wrote = rw c.as_str.ensures.value at c.in_err-write_arg.ensures in
    let part = less_then sink.got sink.faults sink.plan c.args.sink.now c.write_args.new.sink c.write_arg.new.sink (args_text front) (32 ∷ tag) (args_text args) c.in_ok-write_args.ensures wrote in
    rw p.1 (subst (WroteLess sink.got sink.faults sink.plan c.args.sink.now c.write_arg.new.sink) (sym (args_between front tag args)) part)

pub returns : goal.returns
returns g c =
    let sink = g.W.Sink in
    let front = map string_bytes c.args.metadata.now in
    let tag = string_bytes c.args.stanza.now.tag in
    let args = map string_bytes c.args.stanza.now.args.items in
    let wrote_tag = rw c.as_str.ensures.value at c.in_ok-write_arg.ensures in
    let wrote_args = rw c.as_slice.ensures.value at c.write_args-2.ensures in
    let wrote = wrote_then sink.got sink.faults sink.plan c.args.sink.now c.write_args.new.sink c.write_arg.new.sink (args_text front) (32 ∷ tag) c.in_ok-write_args.ensures wrote_tag in
    let all = whole_last sink.got sink.faults sink.plan c.args.sink.now c.write_arg.new.sink c.write_args-2.new.sink c.write_args-2.result (args_text front ++ 32 ∷ tag) (args_text args) wrote wrote_args in
    subst (λ (t : List ℕ). WritesWhole sink.got sink.faults sink.plan c.args.sink.now c.write_args-2.new.sink c.write_args-2.result t) (append_assoc (args_text front) (32 ∷ tag) (args_text args) ∙ sym (args_between front tag args)) all
