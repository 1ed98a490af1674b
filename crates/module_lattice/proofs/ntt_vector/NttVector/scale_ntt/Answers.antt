use Rattle.std.proofs.Common.{rules, ◌++◌, ◌∷◌, [], ◌∙◌, ap}
use Rattle.module_lattice.proofs.Vectors.{mapped_more}
use Rattle.module_lattice.proofs.ntt_vector.NttVector.scale_ntt.Goals as goal

pub loop-i-preserved : goal.loop-i-preserved
loop-i-preserved g c =
    c.in_ok-push.ensures.items ∙ ap (λ z. c.loop-i.items.items ++ z ∷ []) c.mul.ensures
    ∙ mapped_more (g.F.MultiplyNtt.product_of c.args.by.now) c.self.inside.items.items c.loop-i.items.items c.loop-i.i _
    (search rules) (search rules) c.loop-i.invariant
