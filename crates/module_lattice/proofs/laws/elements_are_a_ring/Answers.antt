use Rattle.module_lattice.proofs.Modular.{plus-assoc, times-assoc, times-plus}
use Rattle.module_lattice.proofs.laws.elements_are_a_ring.Goals as goal

pub returns-clause-plus_associates : goal.returns-clause-plus_associates
returns-clause-plus_associates g c = plus-assoc _ c.args.a c.args.b c.args.c

pub returns-clause-times_associates : goal.returns-clause-times_associates
returns-clause-times_associates g c = times-assoc _ c.args.a c.args.b c.args.c

pub returns-clause-times_distributes : goal.returns-clause-times_distributes
returns-clause-times_distributes g c = times-plus _ c.args.a c.args.b c.args.c
