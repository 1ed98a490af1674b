use Rattle.std.proofs.Common.{rules}
use Rattle.module_lattice.specs.Ring.{times}
use Rattle.lattice_transform.proofs.Filled.{replaced-all, replaced-next, replaced-none}
use Rattle.lattice_transform.proofs.arrays.scale.Goals as goal

pub loop-i-init : goal.loop-i-init
loop-i-init c = replaced-none _ _ (search rules)

pub loop-i-preserved : goal.loop-i-preserved
loop-i-preserved c = replaced-next _ _ c.loop-i.i _ _ (search rules) c.turned.ensures c.loop-i.invariant

pub returns : goal.returns
returns c = replaced-all (times 3329 3303) c.args.rows.now c.loop-i.i c.loop-i.rows (search rules) (search rules) c.loop-i.invariant
