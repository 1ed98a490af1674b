use Rattle.std.proofs.Common.{◌∷◌, [], Err, Ok, refl, inl, inr, sym, ap}
use Rattle.std.proofs.lemmas.Result.{err_from_is_err_and}
use Rattle.mail_commands.specs.declared.command.Command.TheVariants.{Key}
use Rattle.kem_mail.specs.declared.error.MailError.TheVariants.{NoMemory}
use Rattle.mail_commands.proofs.Runs.{came_refused, came_key}
use Rattle.mail_commands.proofs.run.key_items.Goals as goal

pub returns-in_err-seed-clause-came : goal.returns-in_err-seed-clause-came
returns-in_err-seed-clause-came g c =
    let source = g.S.Source in
    let said = c.in_err-seed.ensures in
    let p = err_from_is_err_and c.from_residual.result c.from_residual.ensures.1 in
    rw (p.1, p.2) (came_refused g.H.KemHash.family (Key c.args.set) c.in_err-seed.field-0.0 (source.left c.args.src.now) (source.left c.next_seed.new.src) (source.faults c.args.src.now) (source.faults c.next_seed.new.src)
    said.taken (λ e. said.ended (ap Err e)) (λ e. said.read_fault (ap Err e)) (λ not. said.no_fault (λ e. not (cc e))))

pub returns-in_err-key-clause-came : goal.returns-in_err-key-clause-came
returns-in_err-key-clause-came g c =
    let source = g.S.Source in
    let seed = c.in_ok-seed in
    let p = err_from_is_err_and c.from_residual-in_err-key.result c.from_residual-in_err-key.ensures.1 in
    rw (p.1, p.2) (came_key g.H.KemHash.family c.args.set (source.left c.args.src.now) (source.left c.next_seed.new.src) (source.faults c.args.src.now) (source.faults c.next_seed.new.src) seed.seed (Err c.in_err-key.field-0.0)
    seed.ensures.taken (seed.ensures.no_fault (λ e. cc e)) (elim c.in_err-key.ensures [ inl memory ↦ inr (ap Err memory) | inr same ↦ inl (sym same) ]))

pub returns-in_err-push-clause-came : goal.returns-in_err-push-clause-came
returns-in_err-push-clause-came g c =
    let source = g.S.Source in
    let seed = c.in_ok-seed in
    let p = err_from_is_err_and c.from_residual-in_err-push.result c.from_residual-in_err-push.ensures.1 in
    rw (p.1, p.2) (came_key g.H.KemHash.family c.args.set (source.left c.args.src.now) (source.left c.next_seed.new.src) (source.faults c.args.src.now) (source.faults c.next_seed.new.src) seed.seed (Err NoMemory)
    seed.ensures.taken (seed.ensures.no_fault (λ e. cc e)) (inr refl))

pub returns-clause-came : goal.returns-clause-came
returns-clause-came g c =
    let source = g.S.Source in
    let seed = c.in_ok-seed in
    rw (c.in_ok-push.ensures.pushed, c.new-items.ensures) (came_key g.H.KemHash.family c.args.set (source.left c.args.src.now) (source.left c.next_seed.new.src) (source.faults c.args.src.now) (source.faults c.next_seed.new.src) seed.seed (Ok (c.in_ok-key.key.items ∷ []))
    seed.ensures.taken (seed.ensures.no_fault (λ e. cc e)) (inl (sym c.in_ok-key.ensures)))
