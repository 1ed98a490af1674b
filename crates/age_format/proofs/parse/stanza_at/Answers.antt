use Rattle.std.proofs.Common.{sym, ap, ◌∙◌}
use Rattle.age_format.specs.private.Parse.{with_body}
use Rattle.age_format.proofs.Stanzas.{stanza_by_header}
use Rattle.age_format.proofs.parse.stanza_at.Goals as goal

pub returns-in_default-clause-value : goal.returns-in_default-clause-value
returns-in_default-clause-value c =
    let engine = c.args.engine.now in
    ap (with_body engine) (rw c.in_default.is at c.in_ok-header.ensures) ∙ sym (stanza_by_header engine c.args.text.now)

pub returns-in_default-2-clause-value : goal.returns-in_default-2-clause-value
returns-in_default-2-clause-value c =
    let engine = c.args.engine.now in
    let found = ap (with_body engine) (rw c.in-Some.is at c.in_ok-header.ensures) ∙ sym (stanza_by_header engine c.args.text.now) in
    rw (← (rw c.in_default-2.is at c.in_ok-body.ensures.value)) at found

pub returns-clause-value : goal.returns-clause-value
returns-clause-value c =
    let engine = c.args.engine.now in
    let found = ap (with_body engine) (rw c.in-Some.is at c.in_ok-header.ensures) ∙ sym (stanza_by_header engine c.args.text.now) in
    rw c.with_body.ensures (rw (← (rw c.in-Some-2.is at c.in_ok-body.ensures.value)) at found)

pub returns-clause-bytes : goal.returns-clause-bytes
returns-clause-bytes c = rw c.with_body.ensures (rw c.in-Some-2.is at c.in_ok-body.ensures.bytes)
