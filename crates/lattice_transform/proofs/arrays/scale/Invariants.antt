use Rattle.module_lattice.specs.Ring.{times}
use Rattle.lattice_transform.proofs.Filled.{Replaced}
use Rattle.lattice_transform.proofs.arrays.scale.Given as goal

abbrev pub invariant-loop-i : goal.invariant-loop-i
invariant-loop-i l = Replaced (times 3329 3303) l.fn.rows l.i l.rows
