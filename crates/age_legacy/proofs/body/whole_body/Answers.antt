use Rattle.std.proofs.Common.{Err, ◌≡◌, [], length, sym, ap, ◌∙◌, arith}
use Rattle.std.proofs.lemmas.Bool.Decides.{nat_tests}
use Rattle.std.proofs.lemmas.List.{append-nil}
use Rattle.age_format.specs.Stanza.{spelling}
use Rattle.age_legacy.proofs.body.whole_body.Goals as goal

pub returns-then-not-is_empty : goal.returns-then-not-is_empty
returns-then-not-is_empty c = λ s is e.
    let spelled = append-nil (spelling s) ∙ (sym e ∙ c.in-Ok.ensures.read.1) in
    let none : [] ≡ c.in-Ok.rest.now = c.no_spelling_begins_another.ensures.rests s c.in-Ok.stanza [] c.in-Ok.rest.now is c.in-Ok.ensures.read.0 spelled in
    let zero : length c.in-Ok.rest.now ≡ 0 = ap length (sym none) in
    absurd (grind (arith, nat_tests))

pub returns-in-Err-Incomplete : goal.returns-in-Err-Incomplete
returns-in-Err-Incomplete c = λ s is e.
    let front = c.in-Err-Incomplete.ensures.incomplete.0 (ap Err c.in-Err-Incomplete.field-0-is) in
    c.fronts_begin_none.ensures c.args.text.now front s [] is (e ∙ sym (append-nil (spelling s)))

pub returns-in-Err-Error : goal.returns-in-Err-Error
returns-in-Err-Error c = λ s is e.
    let malformed = c.in-Err-Error.ensures.error (ap Err c.in-Err-Error.field-0-is) in
    malformed.begins_none s [] is (e ∙ sym (append-nil (spelling s)))
