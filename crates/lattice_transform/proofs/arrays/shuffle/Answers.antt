use Rattle.std.proofs.Common.{arith, rules}
use Rattle.lattice_transform.proofs.Across.{filled-pair, filled-shuffle}
use Rattle.lattice_transform.proofs.Filled.{filled-none}
use Rattle.lattice_transform.proofs.arrays.shuffle.Goals as goal

pub loop-k-init : goal.loop-k-init
loop-k-init c = filled-none _ _ (search rules)

pub loop-k-preserved : goal.loop-k-preserved
loop-k-preserved c = filled-pair c.loop-k.k c.args.from.now c.loop-k.to _ _ (search rules) (search rules) (search rules) c.loop-k.invariant

pub returns : goal.returns
returns c = filled-shuffle _ c.args.from.now c.loop-k.to (omega arith) c.loop-k.invariant
