use Rattle.std.proofs.Common.{◌≡◌, take}
use Rattle.module_lattice.specs.Groups.{decoded_each}
use Rattle.module_lattice.proofs.encode.VectorEncode.decode.Given as goal

abbrev pub invariant-loop-i : goal.invariant-loop-i
invariant-loop-i g l = l.items.items ≡ take l.i (decoded_each g.F.Field.Q l.d l.count l.bytes)
