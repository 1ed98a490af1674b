use Rattle.std.proofs.Common.{get_or}
use Rattle.module_lattice.specs.Ring.{negated}
use Rattle.module_lattice.proofs.Places.{Filled}
use Rattle.module_lattice.proofs.coefficients.neg.Given as goal

abbrev pub invariant-loop-i : goal.invariant-loop-i
invariant-loop-i g l = Filled g.F.Field.Q (λ k. negated g.F.Field.Q (get_or l.f k 0)) l.i l.out
