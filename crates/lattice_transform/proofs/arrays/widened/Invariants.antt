use Rattle.std.proofs.Common.{get_or}
use Rattle.lattice_transform.proofs.Filled.{Filled}
use Rattle.lattice_transform.proofs.arrays.widened.Given as goal

abbrev pub invariant-loop-i : goal.invariant-loop-i
invariant-loop-i l = Filled (λ k. get_or l.rows k 0) l.i l.out
