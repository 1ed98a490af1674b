use Rattle.std.proofs.Common.{rules, ◌≡◌, true, Some, map, arith}
use Rattle.std.specs.String.{string_bytes}
use Rattle.output_lines.specs.Lines.{lines}
use Rattle.mail_commands.specs.declared.command.Command.TheVariants.{Open}
use Rattle.mail_commands.proofs.Headlines.{gained, statuses_left, three_no_mail, zero_messages}
use Rattle.mail_commands.proofs.laws.headline_over_memory.Goals as goal

pub returns-clause-opened : goal.returns-clause-opened
returns-clause-opened g c = λ suite budget spelled zero.
    let run = c.mail_main-status in
    let told = zero_messages g.H.KemHash.family (map string_bytes c.args.words.now) (Some c.args.src.now) run.result (Some c.args.out.now.got) (Some run.new.out.got) suite budget spelled run.ensures.answered zero in
    (told.0, told.1, gained c.args.out.now.got run.new.out.got (lines told.0) told.2)

pub returns-clause-complete : goal.returns-clause-complete
returns-clause-complete g c = λ suite budget messages spelled mail.
    let run = c.mail_main-status in
    statuses_left run.result (run.new.out.ran_out ≡ true) run.ensures.no_other
    (λ two. run.ensures.command two (Open suite budget) spelled)
    (λ three. three_no_mail g.H.KemHash.family (map string_bytes c.args.words.now) (Some c.args.src.now) run.result (Some c.args.out.now.got) (Some run.new.out.got) suite budget spelled run.ensures.answered three messages mail)
    (λ four. let rose = (run.ensures.read_fault four).0 in omega (arith, rose))
    (λ five. search rules)
