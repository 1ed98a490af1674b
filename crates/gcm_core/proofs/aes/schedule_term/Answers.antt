use Rattle.std.proofs.Common.{arith, ◌<◌, ◌/◌, ◌-◌, ◌*◌, ℕ}
use Rattle.gcm_core.proofs.Schedule.{schedule_term-rotated, slice_index-POWERS_OF_X}
use Rattle.gcm_core.proofs.aes.schedule_term.Goals as goal

div-lt : (a b : ℕ) → a < 11 * b → a / b < 11
div-lt a b h = grind arith

pub returns-then-i-key_words-eq0 : goal.returns-then-i-key_words-eq0
returns-then-i-key_words-eq0 c =
    let bound : c.args.i / c.args.key_words - 1 < 10 = omega (arith, div-lt c.args.i c.args.key_words c.requires.within_rcon) in
    schedule_term-rotated c.args.key_words c.args.i _ c.args.previous _ _ c.if-i-key_words-eq0.true (omega arith) c.sub_word.ensures
    (slice_index-POWERS_OF_X _ bound) c.xor_words.ensures
