use Rattle.gcm_core.proofs.Rounds.{add_round_key-lanes}
use Rattle.gcm_core.proofs.aes.add_round_key.Goals as goal

pub returns : goal.returns
returns c = add_round_key-lanes c.args.state c.args.round_keys.now c.args.round c.fits-state.0 c.requires
