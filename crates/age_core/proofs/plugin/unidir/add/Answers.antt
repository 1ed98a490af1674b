use Rattle.std.proofs.Common.{[], ◌∷◌, ◌++◌, ap, ◌∙◌}
use Rattle.age_core.proofs.Commands.{add_value, add_first, add_dropped, add_error}
use Rattle.age_core.proofs.plugin.unidir.add.Goals as goal

pub returns-in-Ok-Ok : goal.returns-in-Ok-Ok
returns-in-Ok-Ok g c answers h = add_value c.args.outcome c.args.answer answers h c.in-Ok-Ok.values c.push.new.self.items c.in-Ok-Ok.value c.in-Ok-Ok.is-0 c.in-Ok-Ok.is-1 c.in_ok-push-in-Ok-Ok.ensures.items

pub returns-in-Ok-Err : goal.returns-in-Ok-Err
returns-in-Ok-Err g c answers h =
    add_first c.args.outcome c.args.answer answers h c.in-Ok-Err.field-0-0 c.push-in-Ok-Err.new.self.items c.in-Ok-Err.error c.in-Ok-Err.is-0 c.in-Ok-Err.is-1
    (c.in_ok-push-in-Ok-Err.ensures.items ∙ ap (λ t. t ++ c.in-Ok-Err.error ∷ []) c.new-errors.ensures.items)

pub returns-in-Err-Ok : goal.returns-in-Err-Ok
returns-in-Err-Ok g c answers h = add_dropped c.args.outcome c.args.answer answers h c.in-Err-Ok.errors c.in-Err-Ok.field-0-1 c.in-Err-Ok.is-0 c.in-Err-Ok.is-1

pub returns : goal.returns
returns g c answers h = add_error c.args.outcome c.args.answer answers h c.in-Err-Err.errors c.push-in-Err-Err.new.self.items c.in-Err-Err.error c.in-Err-Err.is-0 c.in-Err-Err.is-1 c.in_ok-push-in-Err-Err.ensures.items
