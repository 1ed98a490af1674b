use Rattle.std.proofs.Common.{◌≡◌, take}
use Rattle.module_lattice.specs.Vectors.{vector_difference}
use Rattle.module_lattice.proofs.vector.Vector.sub.Given as goal

abbrev pub invariant-loop-i : goal.invariant-loop-i
invariant-loop-i g l = l.items.items ≡ take l.i (vector_difference g.F.Field.Q l.self-inside.items.items l.rhs-inside.items.items)
