use Rattle.std.proofs.Common.{get_or}
use Rattle.module_lattice.specs.Ring.{plus}
use Rattle.module_lattice.proofs.Places.{Replaced}
use Rattle.module_lattice.proofs.coefficients.add_to.Given as goal

abbrev pub invariant-loop-i : goal.invariant-loop-i
invariant-loop-i g l = Replaced g.F.Field.Q (λ k. plus g.F.Field.Q (get_or l.fn.f k 0) (get_or l.g k 0)) l.fn.f l.i l.f
