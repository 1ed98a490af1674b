use Rattle.std.proofs.Common.{◌≡◌, ◌≢◌, ℕ, ◌+◌, true, false, get_or, length, drop, sym, ap, ◌∙◌, arith, subst}
use Rattle.std.proofs.Math.Seq.{drop-length}
use Rattle.std.proofs.lemmas.Bool.Decides.{nat_tests}
use Rattle.std.proofs.lemmas.List.{take_rest}
use Rattle.age_legacy.specs.Legacy.{is_character, begins_character}
use Rattle.age_legacy.proofs.Runs.{RunsTo, runs_more, runs_no_more, runs_through, by_character, by_feed, off_feed, off_next}
use Rattle.age_legacy.proofs.body.run_len.Goals as goal
use Rattle.age_legacy.proofs.body.run_len.Goals.{then-byte-ne10-via-then-byte-ne10, then-byte-ne10-via-else-byte-ne10+then-not-begins_character}

pub loop-i-preserved-then-is_character : goal.loop-i-preserved-then-is_character
loop-i-preserved-then-is_character c =
    let text = c.args.text.now in
    let i = c.loop-i.i in
    runs_more text i (omega arith) (by_character (get_or text i 0) (drop (i + 1) text) (sym c.if-is_character.ensures)) c.loop-i.invariant

pub returns-then-byte-ne10-clause-run : goal.returns-then-byte-ne10-clause-run
returns-then-byte-ne10-clause-run c =
    let text = c.args.text.now in
    let i = c.loop-i.i in
    let hidden : is_character (get_or text i 0) ≡ false = sym c.if-is_character.ensures in
    elim c.then-byte-ne10.branch [
      | then-byte-ne10-via-then-byte-ne10 w ↦
          let other : get_or text i 0 ≢ 10 = λ (e : get_or text i 0 ≡ 10). grind (arith, nat_tests) in
          runs_no_more text i (omega arith) (off_feed (get_or text i 0) (drop (i + 1) text) hidden other) c.loop-i.invariant
      | then-byte-ne10-via-else-byte-ne10+then-not-begins_character w ↦
          let next : begins_character (drop (i + 1) text) ≡ false = ap begins_character (sym (take_rest text (i + 1))) ∙ sym w.if-not-begins_character.ensures in
          runs_no_more text i (omega arith) (off_next (get_or text i 0) (drop (i + 1) text) hidden next) c.loop-i.invariant
    ]

pub loop-i-preserved : goal.loop-i-preserved
loop-i-preserved c =
    let text = c.args.text.now in
    let i = c.loop-i.i in
    let feed : get_or text i 0 ≡ 10 = grind (arith, nat_tests) in
    let next : begins_character (drop (i + 1) text) ≡ true = ap begins_character (sym (take_rest text (i + 1))) ∙ sym c.if-not-begins_character.ensures in
    runs_more text i (omega arith) (by_feed (get_or text i 0) (drop (i + 1) text) (sym c.if-is_character.ensures) feed next) c.loop-i.invariant

pub returns-clause-run : goal.returns-clause-run
returns-clause-run c =
    let text = c.args.text.now in
    let at : c.loop-i.i ≡ length text = first_of (omega arith, grind (arith, nat_tests)) in
    runs_through text (length text) (drop-length text) (subst (λ (n : ℕ). RunsTo text n) at c.loop-i.invariant)
