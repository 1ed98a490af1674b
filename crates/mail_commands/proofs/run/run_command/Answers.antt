use Rattle.std.proofs.Common.{ℕ, sym, subst, ◌∙◌}
use Rattle.mail_commands.specs.Command.{IsCommand}
use Rattle.mail_commands.specs.Run.{RanGen}
use Rattle.mail_commands.proofs.Generations.{gen_ran, same_count}
use Rattle.mail_commands.proofs.run.run_command.Goals as goal

pub run_gen-requires : goal.run_gen-requires
run_gen-requires g c = subst IsCommand c.in-Gen.is c.requires

pub returns-in-Gen-clause-ran : goal.returns-in-Gen-clause-ran
returns-in-Gen-clause-ran g c =
    let sink = g.W.Sink in
    let source = g.S.Source in
    rw c.in-Gen.is (gen_ran g.H.KemHash.family c.in-Gen.count sink.got sink.faults sink.plan c.args.out.now c.run_gen.new.out c.run_gen.result c.run_gen.ensures (source.left c.args.src.now) (source.faults c.args.src.now))

pub returns-in-Gen-clause-told : goal.returns-in-Gen-clause-told
returns-in-Gen-clause-told g c =
    let sink = g.W.Sink in
    λ count is. subst (λ (n : ℕ). RanGen g.H.KemHash.family n sink.got sink.faults sink.plan c.args.out.now c.run_gen.new.out c.run_gen.result) (same_count c.args.command c.in-Gen.count count c.in-Gen.is is) c.run_gen.ensures

pub returns-in-Open-clause-told : goal.returns-in-Open-clause-told
returns-in-Open-clause-told g c = λ count is. absurd (let no = sym c.in-Open.is ∙ is in cc no)

pub returns-in-Open-clause-unread : goal.returns-in-Open-clause-unread
returns-in-Open-clause-unread g c = λ count is. absurd (let no = sym c.in-Open.is ∙ is in cc no)

pub returns-in-Key-clause-told : goal.returns-in-Key-clause-told
returns-in-Key-clause-told g c = λ count is. absurd (let no = sym c.in-Key.is ∙ is in cc no)

pub returns-in-Key-clause-unread : goal.returns-in-Key-clause-unread
returns-in-Key-clause-unread g c = λ count is. absurd (let no = sym c.in-Key.is ∙ is in cc no)

pub returns-in-Seal-clause-told : goal.returns-in-Seal-clause-told
returns-in-Seal-clause-told g c = λ count is. absurd (let no = sym c.in-Seal.is ∙ is in cc no)

pub returns-in-Seal-clause-unread : goal.returns-in-Seal-clause-unread
returns-in-Seal-clause-unread g c = λ count is. absurd (let no = sym c.in-Seal.is ∙ is in cc no)
