use Rattle.gcm_core.proofs.aes.first_state.Goals as goal

pub returns : goal.returns
returns c = rw c.add_round_key.ensures at c.changed.ensures
