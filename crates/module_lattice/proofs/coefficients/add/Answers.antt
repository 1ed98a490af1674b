use Rattle.std.proofs.Common.{rules}
use Rattle.module_lattice.specs.Ring.{plus}
use Rattle.module_lattice.proofs.Places.{next, zipped, polynomial}
use Rattle.module_lattice.proofs.coefficients.add.Goals as goal

pub loop-i-preserved : goal.loop-i-preserved
loop-i-preserved g c = next _ _ _ _ _ (search rules) (search rules) c.get.ensures.within c.loop-i.invariant

pub returns-clause-value : goal.returns-clause-value
returns-clause-value g c = zipped (plus g.F.Field.Q) g.F.Field.Q c.loop-i.i c.args.f.now c.args.g.now c.loop-i.out (search rules) c.requires.first.size c.requires.second.size c.loop-i.invariant

pub returns-clause-within : goal.returns-clause-within
returns-clause-within g c = polynomial _ _ c.loop-i.i c.loop-i.out (search rules) c.loop-i.invariant
