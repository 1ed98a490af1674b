use Rattle.std.proofs.Common.{◌≡◌, ◌*◌, take}
use Rattle.module_lattice.specs.Groups.{ungroup}
use Rattle.module_lattice.proofs.packing.unpack.Given as goal

abbrev pub invariant-loop-unit : goal.invariant-loop-unit
invariant-loop-unit l = take (l.value_count * l.unit) l.out ≡ ungroup l.d (take (l.byte_count * l.unit) l.bytes)
