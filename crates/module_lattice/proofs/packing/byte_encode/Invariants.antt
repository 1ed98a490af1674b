use Rattle.std.proofs.Common.{◌≡◌, ◌*◌, take}
use Rattle.module_lattice.specs.Groups.{groups}
use Rattle.module_lattice.proofs.packing.byte_encode.Given as goal

abbrev pub invariant-loop-unit : goal.invariant-loop-unit
invariant-loop-unit g l = take (l.byte_count * l.unit) l.out ≡ groups l.d (take (l.value_count * l.unit) l.values)
