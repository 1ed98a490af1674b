use Rattle.std.proofs.Common.{◌*◌, get_or}
use Rattle.lattice_transform.specs.private.Rows.{by_turns}
use Rattle.lattice_transform.proofs.Filled.{Filled}
use Rattle.lattice_transform.proofs.arrays.shuffle.Given as goal

abbrev pub invariant-loop-k : goal.invariant-loop-k
invariant-loop-k l = Filled (λ p. get_or l.from (by_turns p) 0) (2 * l.k) l.to
