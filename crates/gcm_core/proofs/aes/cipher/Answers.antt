use Rattle.std.proofs.Common.{◌-◌, arith}
use Rattle.gcm_core.specs.Aes.{state_after}
use Rattle.gcm_core.proofs.Rounds.{cipher-last, round-next}
use Rattle.gcm_core.proofs.aes.cipher.Goals as goal

pub loop-round-init : goal.loop-round-init
unfolding state_after
loop-round-init c = c.«first_state-state».ensures

pub loop-round-preserved : goal.loop-round-preserved
loop-round-preserved c =
    let w = c.args.round_keys.now in
    let n = c.loop-round.round in
    round-next w c.args.block _ n (omega arith) (c.«next_state-state».ensures w (state_after w c.args.block (n - 1)) n c.loop-round.invariant c.changed_key.ensures (omega arith))

pub returns : goal.returns
returns c =
    let w = c.args.round_keys.now in
    let r = c.loop-round.round in
    cipher-last w c.args.block _ _ r (omega arith) (c.shifted.ensures (state_after w c.args.block (r - 1)) c.loop-round.invariant) c.add_round_key.ensures
