use Rattle.std.proofs.Common.{◌≡◌, ℕ, List, [], ◌∷◌, ◌++◌, length, eqb, false, sym, ap, ◌∙◌}
use Rattle.age_legacy.proofs.Bodies.{dashed, fed_lines, last_answer}
use Rattle.age_legacy.proofs.body.body_of.Goals as goal

pub returns-in-Some : goal.returns-in-Some
returns-in-Some c =
    let chunks = c.args.chunks.now in
    let some : eqb (length chunks) 0 ≡ false = sym c.if-is_empty.ensures in
    let fed = ap (λ (t : List ℕ). t ++ 10 ∷ []) (c.in_ok-extend_from_slice.ensures.items ∙ ap (λ (t : List ℕ). t ++ chunks) c.in_ok-text.ensures.items) in
    let once : c.as_slice.result.now ≡ dashed (chunks ++ 10 ∷ []) = c.as_slice.ensures.value ∙ c.in_ok-push.ensures.items ∙ fed in
    fed_lines c.one_header.ensures chunks c.as_slice.result.now c.in-Some.body.items some once (rw c.in-Some.is at c.in_ok-body.ensures)

pub returns : goal.returns
returns c =
    let chunks = c.args.chunks.now in
    let some : eqb (length chunks) 0 ≡ false = sym c.if-is_empty.ensures in
    let fed = ap (λ (t : List ℕ). t ++ 10 ∷ []) (c.in_ok-extend_from_slice.ensures.items ∙ ap (λ (t : List ℕ). t ++ chunks) c.in_ok-text.ensures.items) in
    let once : c.as_slice.result.now ≡ dashed (chunks ++ 10 ∷ []) = c.as_slice.ensures.value ∙ c.in_ok-push.ensures.items ∙ fed in
    let more : c.as_slice-2.result.now ≡ c.as_slice.result.now ++ 10 ∷ [] = c.as_slice-2.ensures.value ∙ c.in_ok-push-2.ensures.items ∙ ap (λ (t : List ℕ). t ++ 10 ∷ []) (sym c.as_slice.ensures.value) in
    last_answer c.one_header.ensures (λ body. body.items) chunks c.as_slice.result.now c.as_slice-2.result.now c.whole_body-2.result some once more
    (rw c.in_default.is at c.in_ok-body.ensures) c.whole_body-2.ensures
