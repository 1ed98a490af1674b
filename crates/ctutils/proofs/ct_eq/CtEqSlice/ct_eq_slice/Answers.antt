use Rattle.std.proofs.Common.{nat_eq, length, arith}
use Rattle.ctutils.proofs.Lists.{pointwise-take-more}
use Rattle.ctutils.proofs.ct_eq.CtEqSlice.ct_eq_slice.Goals as goal

pub loop-i-preserved : goal.loop-i-preserved
loop-i-preserved g c =
    pointwise-take-more g.Self.CtEq.ct_eq (nat_eq (length c.args.a.now) (length c.args.b.now)) c.loop-i.equal c.ct_eq.result c.bitand_assign.new.self
    c.args.a.now c.args.b.now c.loop-i.i c.index-a-i.result c.index-b-i.result (omega arith) (omega arith) c.index-a-i.is c.index-b-i.is
    c.loop-i.invariant c.ct_eq.ensures c.bitand_assign.ensures.after
