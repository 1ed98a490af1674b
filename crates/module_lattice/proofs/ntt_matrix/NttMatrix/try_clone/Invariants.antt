use Rattle.std.proofs.Common.{◌≡◌, take}
use Rattle.module_lattice.proofs.ntt_matrix.NttMatrix.try_clone.Given as goal

abbrev pub invariant-loop-i : goal.invariant-loop-i
invariant-loop-i g l = l.rows.items ≡ take l.i l.self-inside.rows.items
