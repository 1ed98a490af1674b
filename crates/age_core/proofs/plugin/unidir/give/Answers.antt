use Rattle.std.proofs.Common.{[], ◌∷◌, ◌++◌}
use Rattle.std.proofs.lemmas.Result.{IfOk-weaker}
use Rattle.age_core.proofs.Commands.{calls_more}
use Rattle.age_core.proofs.plugin.unidir.give.Goals as goal

pub returns : goal.returns
returns g c =
    IfOk-weaker c.add.result _ _
    (λ now added f stanzas ran. (ran.0 ++ c.on-answer.result ∷ [], calls_more _ f stanzas ran.0 c.args.on.now c.args.stanza c.on-answer.result c.on-answer.new.self ran.1 c.on-answer.ensures, added ran.0 ran.2))
    c.add.ensures
