use Rattle.std.proofs.Common.{◌∙◌, ap, refl}
use Rattle.module_lattice.specs.Pairs.{gamma}
use Rattle.lattice_transform.specs.Transform.{transform}
use Rattle.ring_acceptance.proofs.transform.transforms_x.Goals as goal

pub returns-clause-pairs : goal.returns-clause-pairs
unfolding gamma transform
returns-clause-pairs g c = c.ntt_counted.ensures.value ∙ ap transform c.requires.x ∙ refl
