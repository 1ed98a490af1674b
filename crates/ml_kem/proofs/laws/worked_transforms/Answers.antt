use Rattle.std.proofs.Common.{refl}
use Rattle.module_lattice.specs.Pairs.{gamma}
use Rattle.lattice_transform.specs.Transform.{transform}
use Rattle.ml_kem.proofs.laws.worked_transforms.Goals as goal

pub returns-clause-of_x : goal.returns-clause-of_x
unfolding transform gamma
returns-clause-of_x c = refl

pub returns-clause-of_square : goal.returns-clause-of_square
unfolding transform gamma
returns-clause-of_square c = refl
