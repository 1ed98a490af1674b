use Rattle.std.proofs.Common.{get_or}
use Rattle.module_lattice.specs.Ring.{times}
use Rattle.module_lattice.proofs.Places.{Filled}
use Rattle.module_lattice.proofs.coefficients.scale.Given as goal

abbrev pub invariant-loop-i : goal.invariant-loop-i
invariant-loop-i g l = Filled g.F.Field.Q (λ k. times g.F.Field.Q l.by (get_or l.f k 0)) l.i l.out
