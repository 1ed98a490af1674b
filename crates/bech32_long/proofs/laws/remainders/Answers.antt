use Rattle.bech32_long.proofs.Division.{IsRemainder-behind_one, one_remainder}
use Rattle.bech32_long.proofs.laws.remainders.Goals as goal

pub returns-clause-remainder : goal.returns-clause-remainder
returns-clause-remainder c = IsRemainder-behind_one

pub returns-clause-only : goal.returns-clause-only
returns-clause-only c = one_remainder
