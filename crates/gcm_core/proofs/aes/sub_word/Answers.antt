use Rattle.std.proofs.Common.{ℕ, List, ◌∷◌, [], ap, ◌∙◌, arith}
use Rattle.std.proofs.lemmas.List.{take-append-le, take_all}
use Rattle.gcm_core.specs.Aes.{sub_word}
use Rattle.gcm_core.proofs.aes.sub_word.Goals as goal

pub returns : goal.returns
returns c =
    let w : List ℕ = c.copy_from_slice.new.self in
    let zeros : List ℕ = 0 ∷ 0 ∷ 0 ∷ 0 ∷ 0 ∷ 0 ∷ 0 ∷ 0 ∷ 0 ∷ 0 ∷ 0 ∷ 0 ∷ [] in
    c.sub_first_word.ensures
    ∙ ap sub_word (take-append-le 4 w zeros (omega (arith, c.copy_from_slice.ensures.len)) ∙ take_all 4 w (omega (arith, c.copy_from_slice.ensures.len)) ∙ c.copy_from_slice.ensures.after)
