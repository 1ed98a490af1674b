use Rattle.sha3.proofs.Sizes.{All-sha3_256, All-sha3_512, All-shake128, All-shake256}
use Rattle.sha3.proofs.laws.bytes.Goals as goal

pub returns-clause-sha3_256 : goal.returns-clause-sha3_256
returns-clause-sha3_256 c = All-sha3_256

pub returns-clause-sha3_512 : goal.returns-clause-sha3_512
returns-clause-sha3_512 c = All-sha3_512

pub returns-clause-shake128 : goal.returns-clause-shake128
returns-clause-shake128 c = All-shake128

pub returns-clause-shake256 : goal.returns-clause-shake256
returns-clause-shake256 c = All-shake256
