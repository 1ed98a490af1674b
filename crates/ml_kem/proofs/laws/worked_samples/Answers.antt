use Rattle.std.proofs.Common.{refl}
use Rattle.ml_kem.specs.Samples.{cbd, sample}
use Rattle.ml_kem.proofs.laws.worked_samples.Goals as goal

pub returns-clause-enough : goal.returns-clause-enough
unfolding sample
returns-clause-enough c = refl

pub returns-clause-few : goal.returns-clause-few
unfolding sample
returns-clause-few c = refl

pub returns-clause-noise_2 : goal.returns-clause-noise_2
unfolding cbd
returns-clause-noise_2 c = refl
