use Rattle.std.proofs.Common.{rules, ◌++◌, ◌∷◌, [], ◌∙◌, ap}
use Rattle.module_lattice.specs.Vectors.{dot_product}
use Rattle.module_lattice.proofs.Vectors.{mapped_more}
use Rattle.module_lattice.proofs.ntt_matrix.NttMatrix.mul.Goals as goal

pub loop-i-preserved : goal.loop-i-preserved
loop-i-preserved g c =
    c.in_ok-push.ensures.items ∙ ap (λ z. c.loop-i.items.items ++ z ∷ []) c.dot.ensures
    ∙ mapped_more (λ row. dot_product g.F.Field.Q g.F.MultiplyNtt.product_of row c.args.rhs.now) c.self.inside.rows.items c.loop-i.items.items c.loop-i.i _
    (search rules) (search rules) c.loop-i.invariant
