use Rattle.std.proofs.Common.{List, ℕ, [], ◌∷◌, ◌++◌, ap, ◌∙◌}
use Rattle.key_der.specs.Der.{encoding, length_octets}
use Rattle.key_der.specs.Keys.{private_header}
use Rattle.key_der.proofs.shape.private_header.Goals as goal

pub returns : goal.returns
unfolding private_header encoding length_octets
returns g c = c.write_parts.ensures
    ∙ ap (λ (xs : List ℕ). 0x30 ∷ 84 ∷ 0x02 ∷ 1 ∷ 0 ∷ (xs ++ 0x04 ∷ 66 ∷ [] ++ 0x80 ∷ 64 ∷ [])) c.algorithm_identifier.ensures
