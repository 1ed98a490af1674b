use Rattle.dsa_ring.proofs.HintLaw.{use_hint-make_hint}
use Rattle.dsa_ring.proofs.laws.hints_recover_high_bits.Goals as goal

pub returns : goal.returns
returns c = use_hint-make_hint
