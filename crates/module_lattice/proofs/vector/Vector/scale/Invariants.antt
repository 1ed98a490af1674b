use Rattle.std.proofs.Common.{◌≡◌, take}
use Rattle.module_lattice.specs.Vectors.{vector_multiple}
use Rattle.module_lattice.proofs.vector.Vector.scale.Given as goal

abbrev pub invariant-loop-i : goal.invariant-loop-i
invariant-loop-i g l = l.items.items ≡ take l.i (vector_multiple g.F.Field.Q l.by l.self-inside.items.items)
