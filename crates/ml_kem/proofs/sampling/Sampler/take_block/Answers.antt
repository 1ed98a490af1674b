use Rattle.std.proofs.Common.{arith}
use Rattle.ml_kem.proofs.Taken.{block-all, block-more, block-none}
use Rattle.ml_kem.proofs.sampling.Sampler.take_block.Goals as goal

pub loop-t-init : goal.loop-t-init
loop-t-init c = block-none c.args.self.now c.args.block.now c.requires.within

pub loop-t-preserved : goal.loop-t-preserved
loop-t-preserved c = block-more c.args.self.now c.args.block.now c.loop-t.self _ c.loop-t.t (omega arith) c.loop-t.invariant c.take_three.ensures

pub returns : goal.returns
returns c = block-all c.args.self.now c.args.block.now c.loop-t.self c.loop-t.t (omega arith) c.loop-t.invariant
