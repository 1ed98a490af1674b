use Rattle.ring_acceptance.proofs.dsa.x_is_transformed_in_1024_steps.Given as goal

abbrev pub ghosts-counts_from_none : goal.ghosts-counts_from_none
ghosts-counts_from_none g a = record { name = a.blank.name; parts = a.blank.parts }

abbrev pub ghosts-notes_from_none : goal.ghosts-notes_from_none
ghosts-notes_from_none g a = record { name = a.blank.name; parts = a.blank.parts }
