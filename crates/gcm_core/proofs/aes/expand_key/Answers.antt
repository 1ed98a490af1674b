use Rattle.std.proofs.Common.{◌≡◌, ℕ, List, ◌+◌, ◌-◌, ◌*◌, ◌/◌, length, drop, arith, ap, ◌∙◌, sym}
use Rattle.std.proofs.lemmas.List.{take_all, take_at}
use Rattle.gcm_core.specs.Aes.{key_expansion, schedule, schedule_term, xor_bytes}
use Rattle.gcm_core.proofs.Schedule.{schedule-next}
use Rattle.gcm_core.proofs.aes.expand_key.Goals as goal

pub loop-i-init : goal.loop-i-init
unfolding schedule
loop-i-init c =
    let key = c.args.key.now in
    let len : length c.copy_from_slice.new.self ≡ length key = ap length c.copy_from_slice.ensures.after in
    let none : length key / 4 - length key / 4 ≡ 0 = omega arith in
    rw none (take_at c.copy_from_slice.new.self (drop (length key) c.args.round_keys.now) (4 * (length key / 4)) (omega arith) ∙ c.copy_from_slice.ensures.after)

pub loop-i-preserved : goal.loop-i-preserved
loop-i-preserved c =
    let nk : ℕ = length c.args.key.now / 4 in
    schedule-next nk c.loop-i.i (c.loop-i.i - nk) (c.loop-i.i + 1 - nk) _ c.args.key.now c.loop-i.round_keys c.schedule_term-term.result c.copy_from_slice-in-loop-i.new.self c.loop-i.invariant
    (omega arith) (omega arith) (omega arith) (ap length c.copy_from_slice-in-loop-i.ensures.after ∙ omega arith)
    (c.schedule_term-term.ensures ∙ ap (schedule_term nk c.loop-i.i) c.word_at.ensures)
    (c.copy_from_slice-in-loop-i.ensures.after ∙ c.xor_words-word.ensures ∙ ap (λ (v : List ℕ). xor_bytes v c.schedule_term-term.result) c.word_at-in-loop-i.ensures) (omega arith)

pub returns : goal.returns
unfolding key_expansion
returns c =
    let key = c.args.key.now in
    let words : c.loop-i.i - length key / 4 ≡ 3 * (length key / 4) + 28 = omega arith in
    sym (take_all (4 * c.loop-i.i) c.loop-i.round_keys (omega arith)) ∙ c.loop-i.invariant ∙ ap (schedule (length key / 4) key) words
