use Rattle.std.proofs.Common.{Err, ap}
use Rattle.kem_mail.specs.Taken.{Lost}
use Rattle.mail_commands.specs.Command.{parameters}
use Rattle.mail_commands.specs.Input.{IsSealInput}
use Rattle.mail_commands.specs.Taken.{RefusalTakes}
use Rattle.mail_commands.specs.declared.command.Command.TheVariants.{Seal}
use Rattle.mail_commands.proofs.Runs.{came_refused}
use Rattle.mail_commands.proofs.Sealings.{refused_ran, seal_ran}
use Rattle.mail_commands.proofs.run.run_seal.Goals as goal

pub returns-in-Ok-clause-ran : goal.returns-in-Ok-clause-ran
returns-in-Ok-clause-ran g c =
    let sink = g.W.Sink in
    let source = g.S.Source in
    let input = c.in-Ok.input in
    let said = c.in-Ok.ensures in
    let taken : Lost (source.left c.args.src.now) (source.left c.next_seal_input.new.src) (λ t. IsSealInput (parameters c.args.suite.set).ek_size t input.key.items input.info.items input.source input.messages) = rw c.key_size.ensures at said.taken in
    seal_ran g.H.KemHash.family c.args.suite (source.left c.args.src.now) (source.left c.next_seal_input.new.src) (source.faults c.args.src.now) (source.faults c.next_seal_input.new.src)
    input.key.items input.info.items input.source input.messages taken said.whole (said.no_fault (λ e. cc e)) sink.got sink.faults sink.plan c.args.out.now c.seal_suite-sealed.new.out c.tell_sealed.new.out c.tell_sealed.result
    c.seal_suite-sealed.result c.seal_suite-sealed.ensures c.tell_sealed.ensures

pub returns-in-Err-clause-ran : goal.returns-in-Err-clause-ran
returns-in-Err-clause-ran g c =
    let sink = g.W.Sink in
    let source = g.S.Source in
    let e = c.in-Err.error in
    let said = c.in-Err.ensures in
    let taken : Lost (source.left c.args.src.now) (source.left c.next_seal_input.new.src) (RefusalTakes (Seal c.args.suite) e) = rw c.key_size.ensures at said.taken in
    refused_ran g.H.KemHash.family c.args.suite (source.left c.args.src.now) (source.left c.next_seal_input.new.src) (source.faults c.args.src.now) (source.faults c.next_seal_input.new.src) (Err e)
    (came_refused g.H.KemHash.family (Seal c.args.suite) e (source.left c.args.src.now) (source.left c.next_seal_input.new.src) (source.faults c.args.src.now) (source.faults c.next_seal_input.new.src)
    taken (λ is. said.ended (ap Err is)) (λ is. said.read_fault (ap Err is)) (λ not. said.no_fault (λ is. not (cc is))))
    sink.got sink.faults sink.plan c.args.out.now c.refuse.new.out c.refuse.result c.refuse.ensures
