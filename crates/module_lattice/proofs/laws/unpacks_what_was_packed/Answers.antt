use Rattle.std.proofs.Common.{◌*◌, ◌/◌, arith, length}
use Rattle.module_lattice.specs.Groups.{groups, ungroup}
use Rattle.module_lattice.proofs.Regrouping.{regroup-regroup}
use Rattle.module_lattice.proofs.Units.{decode12-groups, whole-bytes}
use Rattle.module_lattice.proofs.laws.unpacks_what_was_packed.Goals as goal

pub returns-clause-ungroup : goal.returns-clause-ungroup
unfolding groups ungroup
returns-clause-ungroup c d values positive whole each =
    regroup-regroup d 8 (d * length values / 8) values positive (omega arith) (whole-bytes d (length values) whole) each

pub returns-clause-decode12 : goal.returns-clause-decode12
returns-clause-decode12 c q values whole each below =
    decode12-groups q (12 * length values / 8) values (whole-bytes 12 (length values) whole) each below
