use Rattle.std.proofs.Common.{rules, ◌++◌, ◌∷◌, [], ◌∙◌, ap}
use Rattle.module_lattice.specs.Ring.{difference}
use Rattle.module_lattice.proofs.Vectors.{zipped_more, zipped_all}
use Rattle.module_lattice.proofs.ntt_vector.NttVector.sub.Goals as goal

pub loop-i-preserved : goal.loop-i-preserved
loop-i-preserved g c =
    c.in_ok-push.ensures.items ∙ ap (λ z. c.loop-i.items.items ++ z ∷ []) c.sub.ensures
    ∙ zipped_more (difference g.F.Field.Q) c.self.inside.items.items c.rhs.inside.items.items c.loop-i.items.items c.loop-i.i _ _
    (search rules) (search rules) (search rules) (search rules) c.loop-i.invariant

pub returns : goal.returns
returns g c = zipped_all (difference g.F.Field.Q) c.self.inside.items.items _ c.rhs.inside.items.items _ c.loop-i.items.items c.loop-i.i
    c.self.view_is c.rhs.view_is c.requires (search rules) c.loop-i.invariant
