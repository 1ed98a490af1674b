use Rattle.std.proofs.Common.{refl}
use Rattle.decryption_noise.specs.Noise.{change}
use Rattle.decryption_noise.proofs.Worked.{noise-worked}
use Rattle.decryption_noise.proofs.laws.worked_values.Goals as goal

pub returns-clause-change_4 : goal.returns-clause-change_4
unfolding change
returns-clause-change_4 c = refl

pub returns-clause-change_5 : goal.returns-clause-change_5
unfolding change
returns-clause-change_5 c = refl

pub returns-clause-change_10 : goal.returns-clause-change_10
unfolding change
returns-clause-change_10 c = refl

pub returns-clause-change_11 : goal.returns-clause-change_11
unfolding change
returns-clause-change_11 c = refl

pub returns-clause-noise : goal.returns-clause-noise
returns-clause-noise c = noise-worked
