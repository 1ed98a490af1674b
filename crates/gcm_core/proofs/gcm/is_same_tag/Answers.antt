use Rattle.std.proofs.Common.{arith}
use Rattle.gcm_core.proofs.Stream.{same_from_all, same_so_far-more}
use Rattle.gcm_core.proofs.gcm.is_same_tag.Goals as goal

pub loop-i-preserved : goal.loop-i-preserved
loop-i-preserved c =
    rw c.and-same.ensures (
    same_so_far-more c.loop-i.same c.from_u8_eq.result c.loop-i.i c.args.a.now c.args.b.now c.loop-i.invariant c.from_u8_eq.ensures)

pub returns : goal.returns
returns c =
    rw c.to_bool.ensures (
    same_from_all c.loop-i.same c.loop-i.i 16 c.args.a.now c.args.b.now c.loop-i.invariant (omega arith) (omega arith) (omega arith))
