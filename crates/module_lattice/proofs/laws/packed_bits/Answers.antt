use Rattle.std.proofs.Common.{◌≡◌, ◌*◌, ◌/◌, arith, length}
use Rattle.module_lattice.specs.Groups.{ungroup}
use Rattle.module_lattice.proofs.BitLaws.{bit_at-ungroup, byte_bit-groups}
use Rattle.module_lattice.proofs.Regrouping.{length-regroup}
use Rattle.module_lattice.proofs.Units.{whole-bytes, whole-numbers}
use Rattle.module_lattice.proofs.laws.packed_bits.Goals as goal

pub returns-clause-groups : goal.returns-clause-groups
returns-clause-groups c d values i j whole li lj =
    byte_bit-groups d (d * length values / 8) values i j (whole-bytes d (length values) whole) li lj

pub returns-clause-ungroup : goal.returns-clause-ungroup
unfolding ungroup
returns-clause-ungroup c d bytes i j positive whole li lj =
    let all : 8 * length bytes ≡ d * (8 * length bytes / d) = whole-numbers d (8 * length bytes) whole in
    bit_at-ungroup d (8 * length bytes / d) bytes i j positive all (omega (arith, length-regroup 8 d (8 * length bytes / d) bytes positive all)) lj
