use Rattle.std.proofs.Common.{get_or}
use Rattle.module_lattice.specs.Ring.{minus}
use Rattle.module_lattice.proofs.Places.{Filled}
use Rattle.module_lattice.proofs.coefficients.sub.Given as goal

abbrev pub invariant-loop-i : goal.invariant-loop-i
invariant-loop-i g l = Filled g.F.Field.Q (λ k. minus g.F.Field.Q (get_or l.f k 0) (get_or l.g k 0)) l.i l.out
