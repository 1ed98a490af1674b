use Rattle.generated_mail.specs.Told.{summary_lines}
use Rattle.mail_commands.proofs.Generations.{gen_refused, gen_told}
use Rattle.mail_commands.proofs.run.run_gen.Goals as goal

pub returns-in-Ok : goal.returns-in-Ok
returns-in-Ok g c =
    let sink = g.W.Sink in
    let s = c.in-Ok.summary in
    gen_told g.H.KemHash.family c.args.count sink.got sink.faults sink.plan c.args.out.now c.tell_summary.new.out c.tell_summary.result (summary_lines s.messages s.bytes s.mail s.digest) c.in-Ok.ensures.told c.tell_summary.ensures

pub returns-in-Err : goal.returns-in-Err
returns-in-Err g c =
    let sink = g.W.Sink in
    gen_refused g.H.KemHash.family c.args.count sink.got sink.faults sink.plan c.args.out.now c.refuse.new.out c.refuse.result c.in-Err.error c.in-Err.ensures.refused c.refuse.ensures
