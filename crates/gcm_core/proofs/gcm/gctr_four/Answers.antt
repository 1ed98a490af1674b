use Rattle.std.proofs.Common.{◌≡◌, ℕ, List, ap, ◌∙◌}
use Rattle.gcm_core.specs.Aes.{cipher, xor_bytes}
use Rattle.gcm_core.proofs.Stream.{counter_after-four, gctr_blocks-four}
use Rattle.gcm_core.proofs.gcm.gctr_four.Goals as goal

abbrev Four : Type 0
Four = List ℕ × List ℕ × List ℕ × List ℕ

pub returns-clause-text : goal.returns-clause-text
returns-clause-text c =
    let same : c.cipher_four.result ≡ (cipher c.args.round_keys.now c.args.counter.now, cipher c.args.round_keys.now c.«next-second».result, cipher c.args.round_keys.now c.«next-third».result, cipher c.args.round_keys.now c.«next-fourth».result) = c.cipher_four.ensures in
    gctr_blocks-four (cipher c.args.round_keys.now) c.args.text.now c.args.counter.now c.«next-second».result c.«next-third».result c.«next-fourth».result
    c.«split_at_mut-front».result.0.now c.«split_at_mut-front».result.1.now _ _ _ _ _ _ _ _ c.requires.four c.«split_at_mut-front».ensures.front c.«split_at_mut-front».ensures.back
    c.«split_at_mut-first_block».ensures.front c.«split_at_mut-first_block».ensures.back c.«split_at_mut-third_block».ensures.front c.«split_at_mut-third_block».ensures.back
    c.«next-second».ensures c.«next-third».ensures c.«next-fourth».ensures
    (c.xor_block.ensures ∙ ap (λ (p : Four). xor_bytes c.«split_at_mut-first_block».result.0.now p.0) same)
    (c.«xor_block-2».ensures ∙ ap (λ (p : Four). xor_bytes c.«split_at_mut-first_block».result.1.now p.1) same)
    (c.«xor_block-3».ensures ∙ ap (λ (p : Four). xor_bytes c.«split_at_mut-third_block».result.0.now p.2) same)
    (c.«xor_block-4».ensures ∙ ap (λ (p : Four). xor_bytes c.«split_at_mut-third_block».result.1.now p.3) same)

pub returns-clause-counter : goal.returns-clause-counter
returns-clause-counter c =
    counter_after-four c.args.counter.now c.«next-second».result c.«next-third».result c.«next-fourth».result c.next.result
    c.«next-second».ensures c.«next-third».ensures c.«next-fourth».ensures c.next.ensures
