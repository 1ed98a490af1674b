use Rattle.std.proofs.Common.{Err, Ok, ap, ◌∙◌}
use Rattle.std.proofs.lemmas.Result.{err_from_is_err_and}
use Rattle.mail_commands.specs.declared.command.Command.TheVariants.{Open}
use Rattle.mail_commands.proofs.Runs.{came_refused, came_open}
use Rattle.mail_commands.proofs.run.opened_items.Goals as goal

pub returns-in_err-head-clause-came : goal.returns-in_err-head-clause-came
returns-in_err-head-clause-came g c =
    let source = g.S.Source in
    let said = c.in_err-head.ensures in
    let p = err_from_is_err_and c.from_residual.result c.from_residual.ensures.1 in
    rw (p.1, p.2) (came_refused g.H.KemHash.family (Open c.args.suite c.args.budget) c.in_err-head.field-0.0 (source.left c.args.src.now) (source.left c.next_head.new.src) (source.faults c.args.src.now) (source.faults c.next_head.new.src)
    said.taken (λ e. said.ended (ap Err e)) (λ e. said.read_fault (ap Err e)) (λ not. said.no_fault (λ e. not (cc e))))

pub returns-in_err-messages-clause-came : goal.returns-in_err-messages-clause-came
returns-in_err-messages-clause-came g c =
    let source = g.S.Source in
    let head = c.in_ok-head in
    let p = err_from_is_err_and c.from_residual-in_err-messages.result c.from_residual-in_err-messages.ensures.1 in
    rw (p.1, p.2) (came_open g.H.KemHash.family c.args.suite c.args.budget (source.left c.args.src.now) (source.left c.next_head.new.src) (source.left c.open_suite.new.src)
    (source.faults c.args.src.now) (source.faults c.next_head.new.src) (source.faults c.open_suite.new.src) head.head.seed head.head.info.items (Err c.in_err-messages.field-0.0)
    head.ensures.taken (head.ensures.no_fault (λ e. cc e)) c.in_err-messages.ensures.opened)

pub returns-clause-came : goal.returns-clause-came
returns-clause-came g c =
    let source = g.S.Source in
    let head = c.in_ok-head in
    let messages = c.in_ok-messages in
    rw (c.from_vecs.ensures ∙ c.into_vecs.ensures) (came_open g.H.KemHash.family c.args.suite c.args.budget (source.left c.args.src.now) (source.left c.next_head.new.src) (source.left c.open_suite.new.src)
    (source.faults c.args.src.now) (source.faults c.next_head.new.src) (source.faults c.open_suite.new.src) head.head.seed head.head.info.items (Ok messages.messages)
    head.ensures.taken (head.ensures.no_fault (λ e. cc e)) messages.ensures.opened)
