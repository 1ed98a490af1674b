use Rattle.std.proofs.Common.{◌∙◌, sym, ap, subst, take, drop}
use Rattle.std.proofs.lemmas.List.{take_rest, take-append-drop}
use Rattle.age_format.specs.Stanza.{IsBytes}
use Rattle.age_format.proofs.Cases.{bytes_from, IsBytes-append_right}
use Rattle.age_format.proofs.reader.behind.Goals as goal

pub returns-clause-bytes : goal.returns-clause-bytes
returns-clause-bytes c =
    let items = c.args.buffer.now.items in
    let all : IsBytes items = bytes_from items (c.type_inv.buffer) in
    let rest : IsBytes (drop c.args.count items) = IsBytes-append_right (take c.args.count items) (drop c.args.count items) (subst IsBytes (sym (take-append-drop c.args.count items)) all) in
    let same = take_rest c.deref.result.now c.args.count ∙ ap (drop c.args.count) c.deref.ensures.value in
    subst IsBytes (sym same) rest
