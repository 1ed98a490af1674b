use Rattle.std.proofs.Common.{◌≡◌}
use Rattle.ctutils.proofs.Lists.{chosen_up_to}
use Rattle.ctutils.proofs.ct_select.CtSelectArray.ct_select_array.Given as goal

abbrev pub invariant-loop-i : goal.invariant-loop-i
invariant-loop-i g l = l.selected ≡ chosen_up_to l.choice l.i l.initial.selected l.b
