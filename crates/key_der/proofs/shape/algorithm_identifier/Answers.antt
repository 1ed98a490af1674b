use Rattle.std.proofs.Common.{List, ℕ, ◌∷◌, sym, ap, ◌∙◌, append-nil}
use Rattle.key_der.proofs.Texts.{algorithm_identifier-bytes}
use Rattle.key_der.proofs.shape.algorithm_identifier.Goals as goal

pub returns : goal.returns
returns g c = c.write_parts.ensures
    ∙ ap (λ (xs : List ℕ). 0x30 ∷ 11 ∷ 0x06 ∷ 9 ∷ xs) (append-nil c.oid.result ∙ c.oid.ensures)
    ∙ sym (algorithm_identifier-bytes g.P.ParameterSet.set g.P.ParameterSet.is_set)
