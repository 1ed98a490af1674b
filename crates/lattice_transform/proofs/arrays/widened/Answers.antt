use Rattle.std.proofs.Common.{rules}
use Rattle.lattice_transform.proofs.Filled.{filled-next, filled-none, filled-same}
use Rattle.lattice_transform.proofs.arrays.widened.Goals as goal

pub loop-i-init : goal.loop-i-init
loop-i-init c = filled-none _ _ (search rules)

pub loop-i-preserved : goal.loop-i-preserved
loop-i-preserved c = filled-next _ _ _ _ (search rules) (search rules) c.loop-i.invariant

pub returns : goal.returns
returns c = filled-same c.loop-i.i c.args.rows.now c.loop-i.out (search rules) (search rules) c.loop-i.invariant
