use Rattle.std.proofs.Common.{◌*◌, ◌/◌, arith, length}
use Rattle.module_lattice.specs.Groups.{groups, ungroup}
use Rattle.module_lattice.proofs.Regrouping.{regroup-regroup}
use Rattle.module_lattice.proofs.Units.{whole-numbers}
use Rattle.module_lattice.proofs.laws.packs_what_was_unpacked.Goals as goal

pub returns : goal.returns
unfolding groups ungroup
returns c d bytes positive whole each =
    regroup-regroup 8 d (8 * length bytes / d) bytes (omega arith) positive (whole-numbers d (8 * length bytes) whole) each
