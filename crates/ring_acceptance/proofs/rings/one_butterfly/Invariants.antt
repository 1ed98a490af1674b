use Rattle.ring_acceptance.proofs.rings.one_butterfly.Given as goal

abbrev pub ghosts-counted_step : goal.ghosts-counted_step
ghosts-counted_step g a = record { name = a.blank.name; parts = a.blank.parts }
