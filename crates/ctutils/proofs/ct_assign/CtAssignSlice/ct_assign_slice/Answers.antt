use Rattle.std.proofs.Common.{ap, ◌∙◌, get_or, arith}
use Rattle.std.proofs.Math.ListN.{set}
use Rattle.ctutils.proofs.Lists.{chosen_up_to, set-chosen}
use Rattle.ctutils.proofs.ct_assign.CtAssignSlice.ct_assign_slice.Goals as goal

pub loop-i-preserved : goal.loop-i-preserved
loop-i-preserved g c =
    ap (λ l. set l c.loop-i.i c.ct_assign.new.self) c.loop-i.invariant
    ∙ set-chosen c.args.choice c.loop-i.i c.args.dst.now c.args.src.now c.index-src-i.result c.index-dst-i.result c.ct_assign.new.self c.requires (omega arith) c.index-src-i.is
    (λ unchosen. c.index-dst-i.is ∙ ap (λ l. get_or l c.loop-i.i c.index-dst-i.result) c.loop-i.invariant
    ∙ ap (λ choice. get_or (chosen_up_to choice c.loop-i.i c.args.dst.now c.args.src.now) c.loop-i.i c.index-dst-i.result) unchosen)
    (cc)
