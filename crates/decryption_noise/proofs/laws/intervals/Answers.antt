use Rattle.decryption_noise.proofs.Intervals.{ends-inside, ends-outside, interval}
use Rattle.decryption_noise.proofs.laws.intervals.Goals as goal

pub returns-clause-exactly : goal.returns-clause-exactly
returns-clause-exactly c = interval

pub returns-clause-inside : goal.returns-clause-inside
returns-clause-inside c = ends-inside

pub returns-clause-outside : goal.returns-clause-outside
returns-clause-outside c = ends-outside
