use Rattle.std.proofs.Common.{◌+◌, ◌*◌, arith}
use Rattle.ml_kem.specs.Samples.{cbd_coefficient}
use Rattle.ml_kem.proofs.Narrow.{cbd_coefficient-narrow, get_or-two_more}
use Rattle.ml_kem.proofs.Taken.{cbd-filled}
use Rattle.ml_kem.proofs.sampling.fill_narrow_cbd.Goals as goal

pub loop-t-preserved : goal.loop-t-preserved
loop-t-preserved c =
    let bytes = c.args.bytes.now in
    get_or-two_more (cbd_coefficient 2 bytes) c.loop-t.t c.narrow_coefficient.result c.narrow_coefficient-in-loop-t.result c.loop-t.out (omega arith)
    (cbd_coefficient-narrow bytes (2 * c.loop-t.t) c.loop-t.t 0 c.narrow_coefficient.result (omega arith) (omega arith) c.narrow_coefficient.ensures.value)
    (cbd_coefficient-narrow bytes (2 * c.loop-t.t + 1) c.loop-t.t 4 c.narrow_coefficient-in-loop-t.result (omega arith) (omega arith) c.narrow_coefficient-in-loop-t.ensures.value)
    c.loop-t.invariant

pub returns : goal.returns
returns c = cbd-filled 2 c.args.bytes.now c.loop-t.out (omega arith) (λ k lt. c.loop-t.invariant k (omega arith))
