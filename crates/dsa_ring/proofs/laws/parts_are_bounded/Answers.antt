use Rattle.dsa_ring.proofs.Bounds.{high_bits-below, low_bits-within, power2round_high-below, power2round_low-least, power2round_low-most, use_hint-below}
use Rattle.dsa_ring.proofs.laws.parts_are_bounded.Goals as goal

pub returns-clause-power2round_high : goal.returns-clause-power2round_high
returns-clause-power2round_high c = power2round_high-below

pub returns-clause-power2round_low : goal.returns-clause-power2round_low
returns-clause-power2round_low c = λ r. (power2round_low-least r, power2round_low-most r)

pub returns-clause-high : goal.returns-clause-high
returns-clause-high c = high_bits-below

pub returns-clause-low : goal.returns-clause-low
returns-clause-low c = low_bits-within

pub returns-clause-hinted : goal.returns-clause-hinted
returns-clause-hinted c = use_hint-below
