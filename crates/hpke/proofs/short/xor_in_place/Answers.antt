use Rattle.std.proofs.Common.{arith}
use Rattle.hpke.proofs.Xor.{xor_bytes-is}
use Rattle.hpke.proofs.short.xor_in_place.Goals as goal

pub returns : goal.returns
returns c = xor_bytes-is c.loop-i.bytes c.args.bytes.now c.args.other.now (omega arith) (omega arith) (λ k lt. c.loop-i.invariant.done k (omega arith))
