use Rattle.decryption_noise.proofs.Results.{inside-of, rejected-of, taken-of, wrong-of}
use Rattle.decryption_noise.proofs.laws.decapsulates_inside.Goals as goal

pub returns-clause-inside : goal.returns-clause-inside
returns-clause-inside c = inside-of

pub returns-clause-wrong : goal.returns-clause-wrong
returns-clause-wrong c = wrong-of

pub returns-clause-taken : goal.returns-clause-taken
returns-clause-taken c = taken-of

pub returns-clause-rejected : goal.returns-clause-rejected
returns-clause-rejected c = rejected-of
