use Rattle.std.proofs.Common.{◌≡◌, ◌&&◌, nat_eq, length, take}
use Rattle.std.specs.Cmp.Lexicographic.{pointwise}
use Rattle.ctutils.proofs.ct_eq.CtEqSlice.ct_eq_slice.Given as goal

abbrev pub invariant-loop-i : goal.invariant-loop-i
invariant-loop-i g l = l.equal ≡ (nat_eq (length l.a) (length l.b) && pointwise g.Self.CtEq.ct_eq (take l.i l.a) (take l.i l.b))
