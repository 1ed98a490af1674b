use Rattle.sha3.proofs.Sizes.{length-sha3_256, length-sha3_512, length-shake128, length-shake256}
use Rattle.sha3.proofs.laws.lengths.Goals as goal

pub returns-clause-sha3_256 : goal.returns-clause-sha3_256
returns-clause-sha3_256 c = length-sha3_256

pub returns-clause-sha3_512 : goal.returns-clause-sha3_512
returns-clause-sha3_512 c = length-sha3_512

pub returns-clause-shake128 : goal.returns-clause-shake128
returns-clause-shake128 c = length-shake128

pub returns-clause-shake256 : goal.returns-clause-shake256
returns-clause-shake256 c = length-shake256
