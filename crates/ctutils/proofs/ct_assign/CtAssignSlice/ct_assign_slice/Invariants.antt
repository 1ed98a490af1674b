use Rattle.std.proofs.Common.{◌≡◌}
use Rattle.ctutils.proofs.Lists.{chosen_up_to}
use Rattle.ctutils.proofs.ct_assign.CtAssignSlice.ct_assign_slice.Given as goal

abbrev pub invariant-loop-i : goal.invariant-loop-i
invariant-loop-i g l = l.dst ≡ chosen_up_to l.choice l.i l.initial.dst l.src
