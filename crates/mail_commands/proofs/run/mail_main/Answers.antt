use Rattle.std.proofs.Common.{inl, inr, map, refl, sym, subst, ◌∙◌}
use Rattle.std.specs.String.{string_bytes}
use Rattle.age_format.specs.Outside.{Rose}
use Rattle.kem_mail.specs.Taken.{Lost}
use Rattle.mail_commands.specs.Due.{of_verdict, outcome_output, outcome_status}
use Rattle.mail_commands.specs.Taken.{Takes}
use Rattle.mail_commands.specs.Run.{Ran}
use Rattle.mail_commands.specs.Lines.{no_command_line}
use Rattle.mail_commands.specs.declared.command.Command.{Command}
use Rattle.mail_commands.proofs.Dues.{one_command}
use Rattle.mail_commands.specs.declared.command.Command.TheVariants.{Gen}
use Rattle.mail_commands.proofs.Runs.{gen_status, lost_most}
use Rattle.mail_commands.proofs.Tellings.{command_kind, command_owed, fault_told, memory, never_five, no_command_owed, no_other, no_read_fault, not_two, read_fault, read_part, silent_memory}
use Rattle.mail_commands.proofs.Tellings.{tells_told, told_all, told_answered, told_complete, told_counts, told_fault, told_memory_part, told_memory_whole, told_no_fault, told_plan, told_status, told_write_part}
use Rattle.mail_commands.proofs.run.mail_main.Goals as goal

pub returns-in_default-clause-answered : goal.returns-in_default-clause-answered
returns-in_default-clause-answered g c =
    let sink = g.W.Sink in
    let source = g.S.Source in
    told_answered sink.got sink.faults sink.plan c.args.out.now c.tell_no_command.new.out c.tell_no_command.result 2 no_command_line (inl c.tell_no_command.ensures) g.H.KemHash.family (map string_bytes c.args.words.now) (source.left c.args.src.now) (no_command_owed g.H.KemHash.family (map string_bytes c.args.words.now) (source.left c.args.src.now) c.in_default.ensures.none)

pub returns-in_default-clause-fault_told : goal.returns-in_default-clause-fault_told
returns-in_default-clause-fault_told g c =
    let sink = g.W.Sink in
    λ is. let all = (told_all sink.got sink.faults sink.plan c.args.out.now c.tell_no_command.new.out c.tell_no_command.result 2 no_command_line (inl c.tell_no_command.ensures) (λ five. let both = sym is ∙ five in cc both) (λ six. let both = sym is ∙ six in cc both)).0 in absurd (let no = sym is ∙ all in cc no)

pub returns-in_default-clause-read_fault : goal.returns-in_default-clause-read_fault
returns-in_default-clause-read_fault g c =
    let sink = g.W.Sink in
    λ is. let all = (told_all sink.got sink.faults sink.plan c.args.out.now c.tell_no_command.new.out c.tell_no_command.result 2 no_command_line (inl c.tell_no_command.ensures) (λ five. let both = sym is ∙ five in cc both) (λ six. let both = sym is ∙ six in cc both)).0 in absurd (let no = sym is ∙ all in cc no)

pub returns-in_default-clause-read_part : goal.returns-in_default-clause-read_part
returns-in_default-clause-read_part g c =
    let sink = g.W.Sink in
    λ is. let all = (told_all sink.got sink.faults sink.plan c.args.out.now c.tell_no_command.new.out c.tell_no_command.result 2 no_command_line (inl c.tell_no_command.ensures) (λ five. let both = sym is ∙ five in cc both) (λ six. let both = sym is ∙ six in cc both)).0 in absurd (let no = sym is ∙ all in cc no)

pub returns-in_default-clause-write_fault : goal.returns-in_default-clause-write_fault
returns-in_default-clause-write_fault g c =
    let sink = g.W.Sink in
    told_fault sink.got sink.faults sink.plan c.args.out.now c.tell_no_command.new.out c.tell_no_command.result 2 no_command_line (inl c.tell_no_command.ensures) (λ e. cc e)

pub returns-in_default-clause-no_write_fault : goal.returns-in_default-clause-no_write_fault
returns-in_default-clause-no_write_fault g c =
    let sink = g.W.Sink in
    told_no_fault sink.got sink.faults sink.plan c.args.out.now c.tell_no_command.new.out c.tell_no_command.result 2 no_command_line (inl c.tell_no_command.ensures)

pub returns-in_default-clause-write_part : goal.returns-in_default-clause-write_part
returns-in_default-clause-write_part g c =
    let sink = g.W.Sink in
    let source = g.S.Source in
    told_write_part sink.got sink.faults sink.plan c.args.out.now c.tell_no_command.new.out c.tell_no_command.result 2 no_command_line (inl c.tell_no_command.ensures) g.H.KemHash.family (map string_bytes c.args.words.now) (source.left c.args.src.now) (no_command_owed g.H.KemHash.family (map string_bytes c.args.words.now) (source.left c.args.src.now) c.in_default.ensures.none) (λ e. cc e)

pub returns-in_default-clause-memory : goal.returns-in_default-clause-memory
returns-in_default-clause-memory g c =
    let sink = g.W.Sink in
    λ is none. absurd (elim (told_status sink.got sink.faults sink.plan c.args.out.now c.tell_no_command.new.out c.tell_no_command.result 2 no_command_line c.tell_no_command.ensures) [ inl two ↦ (let no = sym is ∙ two in cc no) | inr five ↦ (let no = sym is ∙ five in cc no) ])

pub returns-in_default-clause-memory_part : goal.returns-in_default-clause-memory_part
returns-in_default-clause-memory_part g c =
    let sink = g.W.Sink in
    let source = g.S.Source in
    told_memory_part sink.got sink.faults sink.plan c.args.out.now c.tell_no_command.new.out c.tell_no_command.result 2 no_command_line (inl c.tell_no_command.ensures) g.H.KemHash.family (map string_bytes c.args.words.now) (source.left c.args.src.now) (no_command_owed g.H.KemHash.family (map string_bytes c.args.words.now) (source.left c.args.src.now) c.in_default.ensures.none) (λ e. absurd (cc e))

pub returns-in_default-clause-memory_whole : goal.returns-in_default-clause-memory_whole
returns-in_default-clause-memory_whole g c =
    let sink = g.W.Sink in
    told_memory_whole sink.got sink.faults sink.plan c.args.out.now c.tell_no_command.new.out c.tell_no_command.result 2 no_command_line (inl c.tell_no_command.ensures) (λ e. absurd (cc e))

pub returns-in_default-clause-no_command : goal.returns-in_default-clause-no_command
returns-in_default-clause-no_command g c =
    let sink = g.W.Sink in
    λ none. told_status sink.got sink.faults sink.plan c.args.out.now c.tell_no_command.new.out c.tell_no_command.result 2 no_command_line c.tell_no_command.ensures

pub returns-in_default-clause-command_line : goal.returns-in_default-clause-command_line
returns-in_default-clause-command_line g c =
    let sink = g.W.Sink in
    λ is. (told_all sink.got sink.faults sink.plan c.args.out.now c.tell_no_command.new.out c.tell_no_command.result 2 no_command_line (inl c.tell_no_command.ensures) (λ five. let both = sym is ∙ five in cc both) (λ six. let both = sym is ∙ six in cc both)).1.gained

pub returns-in_default-clause-complete : goal.returns-in_default-clause-complete
returns-in_default-clause-complete g c =
    let sink = g.W.Sink in
    let source = g.S.Source in
    told_complete sink.got sink.faults sink.plan c.args.out.now c.tell_no_command.new.out c.tell_no_command.result 2 no_command_line (inl c.tell_no_command.ensures) g.H.KemHash.family (map string_bytes c.args.words.now) (source.left c.args.src.now) (no_command_owed g.H.KemHash.family (map string_bytes c.args.words.now) (source.left c.args.src.now) c.in_default.ensures.none) (Rose (source.faults c.args.src.now) (source.faults c.args.src.now)) (λ e. cc e) (inl (inr (inl refl)))

pub returns-in_default-clause-no_other : goal.returns-in_default-clause-no_other
returns-in_default-clause-no_other g c =
    let sink = g.W.Sink in
    elim (told_status sink.got sink.faults sink.plan c.args.out.now c.tell_no_command.new.out c.tell_no_command.result 2 no_command_line c.tell_no_command.ensures) [ inl two ↦ inl (inr (inl two)) | inr five ↦ inr (inr (inl five)) ]

pub returns-in_default-clause-sink_faults : goal.returns-in_default-clause-sink_faults
returns-in_default-clause-sink_faults g c =
    let sink = g.W.Sink in
    told_counts sink.got sink.faults sink.plan c.args.out.now c.tell_no_command.new.out c.tell_no_command.result 2 no_command_line (inl c.tell_no_command.ensures)

pub returns-in_default-clause-plan : goal.returns-in_default-clause-plan
returns-in_default-clause-plan g c =
    let sink = g.W.Sink in
    told_plan sink.got sink.faults sink.plan c.args.out.now c.tell_no_command.new.out c.tell_no_command.result 2 no_command_line (inl c.tell_no_command.ensures)

pub returns-clause-answered : goal.returns-clause-answered
returns-clause-answered g c =
    let sink = g.W.Sink in
    let source = g.S.Source in
    told_answered sink.got sink.faults sink.plan c.args.out.now c.run_command.new.out c.run_command.result (outcome_status c.run_command.ensures.ran.outcome) (outcome_output c.in-Some.command c.run_command.ensures.ran.outcome) (tells_told c.in-Some.command sink.got sink.faults sink.plan c.args.out.now c.run_command.new.out c.run_command.result (outcome_status c.run_command.ensures.ran.outcome) (outcome_output c.in-Some.command c.run_command.ensures.ran.outcome) c.run_command.ensures.ran.told) g.H.KemHash.family (map string_bytes c.args.words.now) (source.left c.args.src.now) (command_owed g.H.KemHash.family (map string_bytes c.args.words.now) (source.left c.args.src.now) (source.left c.run_command.new.src) (source.faults c.args.src.now) (source.faults c.run_command.new.src)
    c.in-Some.command c.in-Some.ensures.found c.run_command.ensures.ran.outcome c.run_command.ensures.ran.came)

pub returns-clause-fault_told : goal.returns-clause-fault_told
returns-clause-fault_told g c =
    let sink = g.W.Sink in
    let source = g.S.Source in
    fault_told g.H.KemHash.family (map string_bytes c.args.words.now) (source.left c.args.src.now) (source.left c.run_command.new.src) (source.faults c.args.src.now) (source.faults c.run_command.new.src)
    c.in-Some.command c.in-Some.ensures.found c.run_command.ensures.ran.outcome c.run_command.ensures.ran.came sink.got sink.faults sink.plan c.args.out.now c.run_command.new.out c.run_command.result c.run_command.ensures.ran.told

pub returns-clause-read_fault : goal.returns-clause-read_fault
returns-clause-read_fault g c =
    let sink = g.W.Sink in
    let source = g.S.Source in
    read_fault g.H.KemHash.family (map string_bytes c.args.words.now) (source.left c.args.src.now) (source.left c.run_command.new.src) (source.faults c.args.src.now) (source.faults c.run_command.new.src)
    c.in-Some.command c.in-Some.ensures.found c.run_command.ensures.ran.outcome c.run_command.ensures.ran.came sink.got sink.faults sink.plan c.args.out.now c.run_command.new.out c.run_command.result c.run_command.ensures.ran.told

pub returns-clause-no_read_fault : goal.returns-clause-no_read_fault
returns-clause-no_read_fault g c =
    let sink = g.W.Sink in
    let source = g.S.Source in
    no_read_fault g.H.KemHash.family (map string_bytes c.args.words.now) (source.left c.args.src.now) (source.left c.run_command.new.src) (source.faults c.args.src.now) (source.faults c.run_command.new.src)
    c.in-Some.command c.in-Some.ensures.found c.run_command.ensures.ran.outcome c.run_command.ensures.ran.came sink.got sink.faults sink.plan c.args.out.now c.run_command.new.out c.run_command.result c.run_command.ensures.ran.told

pub returns-clause-read_part : goal.returns-clause-read_part
returns-clause-read_part g c =
    let sink = g.W.Sink in
    let source = g.S.Source in
    read_part g.H.KemHash.family (map string_bytes c.args.words.now) (source.left c.args.src.now) (source.left c.run_command.new.src) (source.faults c.args.src.now) (source.faults c.run_command.new.src)
    c.in-Some.command c.in-Some.ensures.found c.run_command.ensures.ran.outcome c.run_command.ensures.ran.came sink.got sink.faults sink.plan c.args.out.now c.run_command.new.out c.run_command.result c.run_command.ensures.ran.told

pub returns-clause-write_fault : goal.returns-clause-write_fault
returns-clause-write_fault g c =
    let sink = g.W.Sink in
    told_fault sink.got sink.faults sink.plan c.args.out.now c.run_command.new.out c.run_command.result (outcome_status c.run_command.ensures.ran.outcome) (outcome_output c.in-Some.command c.run_command.ensures.ran.outcome) (tells_told c.in-Some.command sink.got sink.faults sink.plan c.args.out.now c.run_command.new.out c.run_command.result (outcome_status c.run_command.ensures.ran.outcome) (outcome_output c.in-Some.command c.run_command.ensures.ran.outcome) c.run_command.ensures.ran.told) (never_five c.run_command.ensures.ran.outcome)

pub returns-clause-no_write_fault : goal.returns-clause-no_write_fault
returns-clause-no_write_fault g c =
    let sink = g.W.Sink in
    told_no_fault sink.got sink.faults sink.plan c.args.out.now c.run_command.new.out c.run_command.result (outcome_status c.run_command.ensures.ran.outcome) (outcome_output c.in-Some.command c.run_command.ensures.ran.outcome) (tells_told c.in-Some.command sink.got sink.faults sink.plan c.args.out.now c.run_command.new.out c.run_command.result (outcome_status c.run_command.ensures.ran.outcome) (outcome_output c.in-Some.command c.run_command.ensures.ran.outcome) c.run_command.ensures.ran.told)

pub returns-clause-write_part : goal.returns-clause-write_part
returns-clause-write_part g c =
    let sink = g.W.Sink in
    let source = g.S.Source in
    told_write_part sink.got sink.faults sink.plan c.args.out.now c.run_command.new.out c.run_command.result (outcome_status c.run_command.ensures.ran.outcome) (outcome_output c.in-Some.command c.run_command.ensures.ran.outcome) (tells_told c.in-Some.command sink.got sink.faults sink.plan c.args.out.now c.run_command.new.out c.run_command.result (outcome_status c.run_command.ensures.ran.outcome) (outcome_output c.in-Some.command c.run_command.ensures.ran.outcome) c.run_command.ensures.ran.told) g.H.KemHash.family (map string_bytes c.args.words.now) (source.left c.args.src.now) (command_owed g.H.KemHash.family (map string_bytes c.args.words.now) (source.left c.args.src.now) (source.left c.run_command.new.src) (source.faults c.args.src.now) (source.faults c.run_command.new.src)
    c.in-Some.command c.in-Some.ensures.found c.run_command.ensures.ran.outcome c.run_command.ensures.ran.came) (never_five c.run_command.ensures.ran.outcome)

pub returns-clause-memory : goal.returns-clause-memory
returns-clause-memory g c =
    let sink = g.W.Sink in
    memory sink.got sink.faults sink.plan c.args.out.now c.run_command.new.out c.run_command.result (map string_bytes c.args.words.now) c.in-Some.command c.run_command.ensures.ran.outcome c.in-Some.ensures.found c.run_command.ensures.ran.told

pub returns-clause-memory_part : goal.returns-clause-memory_part
returns-clause-memory_part g c =
    let sink = g.W.Sink in
    let source = g.S.Source in
    told_memory_part sink.got sink.faults sink.plan c.args.out.now c.run_command.new.out c.run_command.result (outcome_status c.run_command.ensures.ran.outcome) (outcome_output c.in-Some.command c.run_command.ensures.ran.outcome) (tells_told c.in-Some.command sink.got sink.faults sink.plan c.args.out.now c.run_command.new.out c.run_command.result (outcome_status c.run_command.ensures.ran.outcome) (outcome_output c.in-Some.command c.run_command.ensures.ran.outcome) c.run_command.ensures.ran.told) g.H.KemHash.family (map string_bytes c.args.words.now) (source.left c.args.src.now) (command_owed g.H.KemHash.family (map string_bytes c.args.words.now) (source.left c.args.src.now) (source.left c.run_command.new.src) (source.faults c.args.src.now) (source.faults c.run_command.new.src)
    c.in-Some.command c.in-Some.ensures.found c.run_command.ensures.ran.outcome c.run_command.ensures.ran.came) (silent_memory g.H.KemHash.family (map string_bytes c.args.words.now) (source.left c.args.src.now) (source.left c.run_command.new.src) (source.faults c.args.src.now) (source.faults c.run_command.new.src)
    c.in-Some.command c.in-Some.ensures.found c.run_command.ensures.ran.outcome c.run_command.ensures.ran.came)

pub returns-clause-memory_whole : goal.returns-clause-memory_whole
returns-clause-memory_whole g c =
    let sink = g.W.Sink in
    let source = g.S.Source in
    told_memory_whole sink.got sink.faults sink.plan c.args.out.now c.run_command.new.out c.run_command.result (outcome_status c.run_command.ensures.ran.outcome) (outcome_output c.in-Some.command c.run_command.ensures.ran.outcome) (tells_told c.in-Some.command sink.got sink.faults sink.plan c.args.out.now c.run_command.new.out c.run_command.result (outcome_status c.run_command.ensures.ran.outcome) (outcome_output c.in-Some.command c.run_command.ensures.ran.outcome) c.run_command.ensures.ran.told)
    (silent_memory g.H.KemHash.family (map string_bytes c.args.words.now) (source.left c.args.src.now) (source.left c.run_command.new.src) (source.faults c.args.src.now) (source.faults c.run_command.new.src)
    c.in-Some.command c.in-Some.ensures.found c.run_command.ensures.ran.outcome c.run_command.ensures.ran.came)

pub returns-clause-command : goal.returns-clause-command
returns-clause-command g c =
    let sink = g.W.Sink in
    let source = g.S.Source in
    λ is. absurd (not_two g.H.KemHash.family (map string_bytes c.args.words.now) (source.left c.args.src.now) (source.left c.run_command.new.src) (source.faults c.args.src.now) (source.faults c.run_command.new.src)
    c.in-Some.command c.in-Some.ensures.found c.run_command.ensures.ran.outcome c.run_command.ensures.ran.came sink.got sink.faults sink.plan c.args.out.now c.run_command.new.out c.run_command.result c.run_command.ensures.ran.told is)

pub returns-clause-no_command : goal.returns-clause-no_command
returns-clause-no_command g c =
    λ none. absurd (none c.in-Some.command c.in-Some.ensures.found)

pub returns-clause-command_line : goal.returns-clause-command_line
returns-clause-command_line g c =
    let sink = g.W.Sink in
    let source = g.S.Source in
    λ is. absurd (not_two g.H.KemHash.family (map string_bytes c.args.words.now) (source.left c.args.src.now) (source.left c.run_command.new.src) (source.faults c.args.src.now) (source.faults c.run_command.new.src)
    c.in-Some.command c.in-Some.ensures.found c.run_command.ensures.ran.outcome c.run_command.ensures.ran.came sink.got sink.faults sink.plan c.args.out.now c.run_command.new.out c.run_command.result c.run_command.ensures.ran.told is)

pub returns-clause-unread : goal.returns-clause-unread
returns-clause-unread g c =
    λ none. absurd (none c.in-Some.command c.in-Some.ensures.found)

pub returns-clause-complete : goal.returns-clause-complete
returns-clause-complete g c =
    let sink = g.W.Sink in
    let source = g.S.Source in
    told_complete sink.got sink.faults sink.plan c.args.out.now c.run_command.new.out c.run_command.result (outcome_status c.run_command.ensures.ran.outcome) (outcome_output c.in-Some.command c.run_command.ensures.ran.outcome) (tells_told c.in-Some.command sink.got sink.faults sink.plan c.args.out.now c.run_command.new.out c.run_command.result (outcome_status c.run_command.ensures.ran.outcome) (outcome_output c.in-Some.command c.run_command.ensures.ran.outcome) c.run_command.ensures.ran.told) g.H.KemHash.family (map string_bytes c.args.words.now) (source.left c.args.src.now) (command_owed g.H.KemHash.family (map string_bytes c.args.words.now) (source.left c.args.src.now) (source.left c.run_command.new.src) (source.faults c.args.src.now) (source.faults c.run_command.new.src)
    c.in-Some.command c.in-Some.ensures.found c.run_command.ensures.ran.outcome c.run_command.ensures.ran.came) (Rose (source.faults c.args.src.now) (source.faults c.run_command.new.src)) (never_five c.run_command.ensures.ran.outcome) (command_kind g.H.KemHash.family (map string_bytes c.args.words.now) (source.left c.args.src.now) (source.left c.run_command.new.src) (source.faults c.args.src.now) (source.faults c.run_command.new.src)
    c.in-Some.command c.in-Some.ensures.found c.run_command.ensures.ran.outcome c.run_command.ensures.ran.came)

pub returns-clause-taken : goal.returns-clause-taken
returns-clause-taken g c =
    let sink = g.W.Sink in
    let source = g.S.Source in
    λ command spelled.
    subst (λ (it : Command). Ran g.H.KemHash.family it (source.left c.args.src.now) (source.left c.run_command.new.src) (source.faults c.args.src.now) (source.faults c.run_command.new.src) sink.got sink.faults sink.plan c.args.out.now c.run_command.new.out c.run_command.result) (one_command (map string_bytes c.args.words.now) c.in-Some.command command c.in-Some.ensures.found spelled) c.run_command.ensures.ran

pub returns-clause-within : goal.returns-clause-within
returns-clause-within g c =
    let source = g.S.Source in
    λ command spelled.
    lost_most g.H.KemHash.family command c.run_command.ensures.ran.outcome (source.left c.args.src.now) (source.left c.run_command.new.src)
    (subst (λ (it : Command). Lost (source.left c.args.src.now) (source.left c.run_command.new.src) (Takes g.H.KemHash.family it c.run_command.ensures.ran.outcome)) (one_command (map string_bytes c.args.words.now) c.in-Some.command command c.in-Some.ensures.found spelled) c.run_command.ensures.ran.came.took)

pub returns-clause-no_other : goal.returns-clause-no_other
returns-clause-no_other g c =
    let sink = g.W.Sink in
    let source = g.S.Source in
    no_other g.H.KemHash.family (map string_bytes c.args.words.now) (source.left c.args.src.now) (source.left c.run_command.new.src) (source.faults c.args.src.now) (source.faults c.run_command.new.src)
    c.in-Some.command c.in-Some.ensures.found c.run_command.ensures.ran.outcome c.run_command.ensures.ran.came sink.got sink.faults sink.plan c.args.out.now c.run_command.new.out c.run_command.result c.run_command.ensures.ran.told

pub returns-clause-sink_faults : goal.returns-clause-sink_faults
returns-clause-sink_faults g c =
    let sink = g.W.Sink in
    told_counts sink.got sink.faults sink.plan c.args.out.now c.run_command.new.out c.run_command.result (outcome_status c.run_command.ensures.ran.outcome) (outcome_output c.in-Some.command c.run_command.ensures.ran.outcome) (tells_told c.in-Some.command sink.got sink.faults sink.plan c.args.out.now c.run_command.new.out c.run_command.result (outcome_status c.run_command.ensures.ran.outcome) (outcome_output c.in-Some.command c.run_command.ensures.ran.outcome) c.run_command.ensures.ran.told)

pub returns-clause-plan : goal.returns-clause-plan
returns-clause-plan g c =
    let sink = g.W.Sink in
    told_plan sink.got sink.faults sink.plan c.args.out.now c.run_command.new.out c.run_command.result (outcome_status c.run_command.ensures.ran.outcome) (outcome_output c.in-Some.command c.run_command.ensures.ran.outcome) (tells_told c.in-Some.command sink.got sink.faults sink.plan c.args.out.now c.run_command.new.out c.run_command.result (outcome_status c.run_command.ensures.ran.outcome) (outcome_output c.in-Some.command c.run_command.ensures.ran.outcome) c.run_command.ensures.ran.told)

pub returns-in_default-clause-unread_by_gen : goal.returns-in_default-clause-unread_by_gen
returns-in_default-clause-unread_by_gen g c = λ count spelled. absurd (c.in_default.ensures.none (Gen count) spelled)

pub returns-in_default-clause-told_by_gen : goal.returns-in_default-clause-told_by_gen
returns-in_default-clause-told_by_gen g c = λ count spelled. absurd (c.in_default.ensures.none (Gen count) spelled)

pub returns-clause-unread_by_gen : goal.returns-clause-unread_by_gen
returns-clause-unread_by_gen g c =
    let sink = g.W.Sink in
    λ count spelled.
    let is = one_command (map string_bytes c.args.words.now) c.in-Some.command (Gen count) c.in-Some.ensures.found spelled in
    let told = c.run_command.ensures.told count is in (
      c.run_command.ensures.unread count is,
      gen_status g.H.KemHash.family count told.verdict told.comes sink.got sink.faults sink.plan c.args.out.now c.run_command.new.out c.run_command.result (outcome_output (Gen count) (of_verdict told.verdict)) told.told,
    )

pub returns-clause-told_by_gen : goal.returns-clause-told_by_gen
returns-clause-told_by_gen g c =
    λ count spelled. c.run_command.ensures.told count (one_command (map string_bytes c.args.words.now) c.in-Some.command (Gen count) c.in-Some.ensures.found spelled)

pub run_command-requires : goal.run_command-requires
run_command-requires g c = c.in-Some.ensures.found.is_command
