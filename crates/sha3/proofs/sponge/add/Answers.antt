use Rattle.std.proofs.Common.{arith}
use Rattle.sha3.proofs.Blocks.{added-is}
use Rattle.sha3.proofs.sponge.add.Goals as goal

pub returns : goal.returns
returns c = added-is c.loop-k.state c.args.state.now c.args.block.now c.loop-k.k c.loop-k.invariant.size (omega arith) c.told-state c.loop-k.invariant.done c.loop-k.invariant.rest
