use Rattle.std.proofs.Common.{ap, ◌∙◌, rules}
use Rattle.std.proofs.Math.ListN.{set}
use Rattle.ctutils.proofs.Lists.{set-chosen}
use Rattle.ctutils.proofs.ct_select.CtSelectArray.ct_select_array.Goals as goal

pub loop-i-preserved : goal.loop-i-preserved
loop-i-preserved g c =
    ap (λ l. set l c.loop-i.i c.ct_select.result) c.loop-i.invariant
    ∙ set-chosen c.args.choice c.loop-i.i c.args.a.now c.args.b.now c.index-b-i.result c.index-a-i.result c.ct_select.result (search rules) (search rules) c.index-b-i.is
    (λ unchosen. c.index-a-i.is) (cc)
