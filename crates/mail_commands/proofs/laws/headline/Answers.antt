use Rattle.std.proofs.Common.{map}
use Rattle.std.specs.String.{string_bytes}
use Rattle.age_format.specs.Outside.{Rose}
use Rattle.mail_commands.proofs.Headlines.{three_due, zero_messages, three_no_mail, complete_messages}
use Rattle.mail_commands.proofs.laws.headline.Goals as goal

pub returns-clause-opened : goal.returns-clause-opened
returns-clause-opened g c = λ suite budget spelled.
    let got = g.W.Sink.got in
    zero_messages g.H.KemHash.family (map string_bytes c.args.words.now) (g.S.Source.left c.args.src.now) c.mail_main.result (got c.args.out.now) (got c.mail_main.new.out) suite budget spelled c.mail_main.ensures.answered

pub returns-clause-refused : goal.returns-clause-refused
returns-clause-refused g c =
    let got = g.W.Sink.got in
    three_due g.H.KemHash.family (map string_bytes c.args.words.now) (g.S.Source.left c.args.src.now) c.mail_main.result (got c.args.out.now) (got c.mail_main.new.out) c.mail_main.ensures.answered

pub returns-clause-no_mail : goal.returns-clause-no_mail
returns-clause-no_mail g c = λ suite budget spelled.
    let got = g.W.Sink.got in
    three_no_mail g.H.KemHash.family (map string_bytes c.args.words.now) (g.S.Source.left c.args.src.now) c.mail_main.result (got c.args.out.now) (got c.mail_main.new.out) suite budget spelled c.mail_main.ensures.answered

pub returns-clause-complete : goal.returns-clause-complete
returns-clause-complete g c = λ suite budget spelled.
    let sink = g.W.Sink in
    let source = g.S.Source in
    complete_messages g.H.KemHash.family (map string_bytes c.args.words.now) (source.left c.args.src.now) c.mail_main.result (sink.got c.args.out.now) (sink.got c.mail_main.new.out) suite budget spelled
    (Rose (source.faults c.args.src.now) (source.faults c.mail_main.new.src)) (Rose (sink.faults c.args.out.now) (sink.faults c.mail_main.new.out)) c.mail_main.ensures.answered c.mail_main.ensures.complete
