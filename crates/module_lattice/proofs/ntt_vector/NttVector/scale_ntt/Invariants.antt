use Rattle.std.proofs.Common.{◌≡◌, take}
use Rattle.module_lattice.specs.Vectors.{vector_product}
use Rattle.module_lattice.proofs.ntt_vector.NttVector.scale_ntt.Given as goal

abbrev pub invariant-loop-i : goal.invariant-loop-i
invariant-loop-i g l = l.items.items ≡ take l.i (vector_product g.F.MultiplyNtt.product_of l.by l.self-inside.items.items)
