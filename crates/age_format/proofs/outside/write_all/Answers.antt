use Rattle.age_format.proofs.Writing.{writes_of}
use Rattle.age_format.proofs.outside.write_all.Goals as goal

pub returns : goal.returns
returns g c =
    let sink = g.W.Sink in
    writes_of sink.got sink.faults sink.plan c.args.sink.now c.write_whole.new.sink c.write_whole.result c.args.bytes.now c.write_whole.ensures
