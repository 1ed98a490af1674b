use Rattle.std.proofs.Common.{◌≡◌, ◌+◌, ◌∷◌, ℕ, List, [], length, take, ap, ◌∙◌, arith}
use Rattle.std.specs.Prelude.{sum_by}
use Rattle.std.proofs.lemmas.List.Sums.{sum_by-append, sum_by-cons}
use Rattle.kem_mail.proofs.SentMails.{placed_got}
use Rattle.generated_mail.proofs.summary.total_len.Goals as goal

pub loop-i-preserved : goal.loop-i-preserved
loop-i-preserved c =
    let messages = c.args.messages.now in
    let i = c.loop-i.i in
    let message = c.unwrap-message.result.now in
    let inv = c.loop-i.invariant in
    let place = placed_got c.get.result c.unwrap-message.result messages i c.get.ensures c.unwrap-message.ensures in
    let more : sum_by length (take (i + 1) messages) ≡ sum_by length (take i messages) + sum_by length (message ∷ []) = ap (λ (ms : List (List ℕ)). sum_by length ms) place.more ∙ sum_by-append length (take i messages) (message ∷ []) in
    let one : sum_by length (message ∷ []) ≡ length message + 0 = sum_by-cons length message [] in
    let value = c.len_of.ensures.value in
    let bound = c.len_of.ensures.bound in
    let so_far = inv.sum in
    let within = inv.within in
    record {
      sum = omega (arith, more, one, value, so_far);
      within = omega (arith, within, bound);
    }
