use Rattle.std.proofs.Common.{arith}
use Rattle.ml_kem.proofs.Taken.{cbd-filled}
use Rattle.ml_kem.proofs.sampling.fill_cbd.Goals as goal

pub returns : goal.returns
returns c = cbd-filled c.args.eta c.args.bytes.now c.loop-i.out (omega arith) (λ k lt. c.loop-i.invariant k (omega arith))
