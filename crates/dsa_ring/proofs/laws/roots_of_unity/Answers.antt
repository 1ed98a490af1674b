use Rattle.std.proofs.Common.{refl}
use Rattle.dsa_ring.proofs.Cross.{roots-differ}
use Rattle.dsa_ring.proofs.Roots.{power_256}
use Rattle.dsa_ring.proofs.laws.roots_of_unity.Goals as goal

pub returns-clause-primitive : goal.returns-clause-primitive
returns-clause-primitive c = refl

pub returns-clause-roots : goal.returns-clause-roots
returns-clause-roots c = power_256

pub returns-clause-differ : goal.returns-clause-differ
returns-clause-differ c = roots-differ

pub returns-clause-factor : goal.returns-clause-factor
returns-clause-factor c = refl
