use Rattle.dsa_ring.proofs.Bounds.{decompose-total, power2round-total}
use Rattle.dsa_ring.proofs.laws.parts_make_up_numbers.Goals as goal

pub returns-clause-power2round : goal.returns-clause-power2round
returns-clause-power2round c = power2round-total

pub returns-clause-decompose : goal.returns-clause-decompose
returns-clause-decompose c = decompose-total
