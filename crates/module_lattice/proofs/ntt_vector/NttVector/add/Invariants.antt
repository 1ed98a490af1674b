use Rattle.std.proofs.Common.{◌≡◌, take}
use Rattle.module_lattice.specs.Vectors.{vector_sum}
use Rattle.module_lattice.proofs.ntt_vector.NttVector.add.Given as goal

abbrev pub invariant-loop-i : goal.invariant-loop-i
invariant-loop-i g l = l.items.items ≡ take l.i (vector_sum g.F.Field.Q l.self-inside.items.items l.rhs-inside.items.items)
