use Rattle.sha3.proofs.Sizes.{take-shake128, take-shake256}
use Rattle.sha3.proofs.laws.outputs_are_fronts.Goals as goal

pub returns-clause-shake128 : goal.returns-clause-shake128
returns-clause-shake128 c = take-shake128

pub returns-clause-shake256 : goal.returns-clause-shake256
returns-clause-shake256 c = take-shake256
