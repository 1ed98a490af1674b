use Rattle.std.proofs.Common.{refl}
use Rattle.age_send.specs.Grease.{drawn_number}
use Rattle.age_send.proofs.grease.draw_number.Goals as goal

pub returns-clause-value : goal.returns-clause-value
unfolding drawn_number
returns-clause-value g c = rw (← c.next_u32.ensures, c.from.ensures) refl
