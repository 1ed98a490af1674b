use Rattle.std.proofs.Common.{◌∙◌, ap₂}
use Rattle.module_lattice.specs.Vectors.{dot_product}
use Rattle.module_lattice.proofs.ntt_vector.NttVector.dot.Goals as goal

pub returns : goal.returns
returns g c =
    c.dot.ensures ∙ ap₂ (dot_product g.F.Field.Q g.F.MultiplyNtt.product_of) (c.as_slice.ensures.value ∙ c.self.view_is) (c.as_slice-2.ensures.value ∙ c.rhs.view_is)
