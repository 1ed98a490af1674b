use Rattle.ring_acceptance.proofs.transform.x_is_transformed_in_896_steps.Given as goal

abbrev pub ghosts-counts_from_none : goal.ghosts-counts_from_none
ghosts-counts_from_none g a = record { name = a.blank.name; parts = a.blank.parts }
