use Rattle.decryption_noise.proofs.Intervals.{centred-least, centred-modulo, centred-most}
use Rattle.decryption_noise.proofs.laws.centred_numbers.Goals as goal

pub returns-clause-least : goal.returns-clause-least
returns-clause-least c = centred-least

pub returns-clause-most : goal.returns-clause-most
returns-clause-most c = centred-most

pub returns-clause-modulo : goal.returns-clause-modulo
returns-clause-modulo c = centred-modulo
