use Rattle.std.proofs.Common.{rules}
use Rattle.module_lattice.specs.Ring.{plus}
use Rattle.module_lattice.proofs.Places.{zipped, polynomial}
use Rattle.module_lattice.proofs.coefficients.add_to.Goals as goal

pub returns-clause-value : goal.returns-clause-value
returns-clause-value g c = zipped (plus g.F.Field.Q) g.F.Field.Q c.loop-i.i c.args.f.now c.args.g.now c.loop-i.f (search rules) c.requires.first.size c.requires.second.size c.loop-i.invariant.filled

pub returns-clause-within : goal.returns-clause-within
returns-clause-within g c = polynomial _ _ c.loop-i.i c.loop-i.f (search rules) c.loop-i.invariant.filled
