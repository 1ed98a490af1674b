use Rattle.std.proofs.Common.{arith}
use Rattle.gcm_core.proofs.Stream.{xor_bytes_filled}
use Rattle.gcm_core.proofs.gcm.xor_in_place.Goals as goal

pub returns : goal.returns
returns c =
    xor_bytes_filled c.loop-i.text c.args.text.now c.args.stream (omega arith) (omega arith) (λ k h. c.loop-i.invariant.0 k (omega arith))
