use Rattle.std.proofs.Common.{ℕ, List, ◌-◌, ap, ◌∙◌, arith}
use Rattle.gcm_core.specs.Aes.{cipher, state_after}
use Rattle.gcm_core.proofs.Rounds.{cipher-last, round-next}
use Rattle.gcm_core.proofs.aes.cipher_four.Goals as goal

pub loop-round-init : goal.loop-round-init
unfolding state_after
loop-round-init c = (c.«first_state-a».ensures, c.«first_state-b».ensures, c.«first_state-c».ensures, c.«first_state-d».ensures)

pub loop-round-preserved : goal.loop-round-preserved
loop-round-preserved c =
    let w = c.args.round_keys.now in
    let n = c.loop-round.round in
    let key = c.«changed_key-key».ensures in (
      round-next w c.args.a _ n (omega arith) (c.«next_state-a».ensures w (state_after w c.args.a (n - 1)) n c.loop-round.invariant.0 key (omega arith)),
      round-next w c.args.b _ n (omega arith) (c.«next_state-b».ensures w (state_after w c.args.b (n - 1)) n c.loop-round.invariant.1 key (omega arith)),
      round-next w c.args.c _ n (omega arith) (c.«next_state-c».ensures w (state_after w c.args.c (n - 1)) n c.loop-round.invariant.2 key (omega arith)),
      round-next w c.args.d _ n (omega arith) (c.«next_state-d».ensures w (state_after w c.args.d (n - 1)) n c.loop-round.invariant.3 key (omega arith)),
    )

pub returns : goal.returns
returns c =
    let w = c.args.round_keys.now in
    let r = c.loop-round.round in
    let a = cipher-last w c.args.a _ _ r (omega arith) (c.shifted.ensures (state_after w c.args.a (r - 1)) c.loop-round.invariant.0) c.add_round_key.ensures in
    let b = cipher-last w c.args.b _ _ r (omega arith) (c.«shifted-2».ensures (state_after w c.args.b (r - 1)) c.loop-round.invariant.1) c.«add_round_key-2».ensures in
    let d = cipher-last w c.args.c _ _ r (omega arith) (c.«shifted-3».ensures (state_after w c.args.c (r - 1)) c.loop-round.invariant.2) c.«add_round_key-3».ensures in
    let e = cipher-last w c.args.d _ _ r (omega arith) (c.«shifted-4».ensures (state_after w c.args.d (r - 1)) c.loop-round.invariant.3) c.«add_round_key-4».ensures in
    ap (λ (x : List ℕ). (x, c.«add_round_key-2».result, c.«add_round_key-3».result, c.«add_round_key-4».result)) a
    ∙ ap (λ (x : List ℕ). (cipher w c.args.a, x, c.«add_round_key-3».result, c.«add_round_key-4».result)) b
    ∙ ap (λ (x : List ℕ). (cipher w c.args.a, cipher w c.args.b, x, c.«add_round_key-4».result)) d
    ∙ ap (λ (x : List ℕ). (cipher w c.args.a, cipher w c.args.b, cipher w c.args.c, x)) e
