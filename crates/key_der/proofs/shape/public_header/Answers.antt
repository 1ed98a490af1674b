use Rattle.std.proofs.Common.{◌≡◌, ℕ, ◌+◌, refl, sym, ap, ◌∙◌, arith}
use Rattle.ml_kem.specs.Parameters.{Parameters}
use Rattle.key_der.specs.Der.{bit_string, opening, sequence}
use Rattle.key_der.specs.Keys.{public_header}
use Rattle.key_der.proofs.shape.public_header.Goals as goal

pub returns : goal.returns
unfolding public_header
returns g c =
    let set : Parameters = g.P.ParameterSet.set in
    let size : set.ek_size ≡ c.EK_SIZE-contents.result = ap (λ (s : Parameters). s.ek_size) g.P.ParameterSet.constants ∙ sym c.EK_SIZE-contents.ensures in
    let whole : 17 + (c.EK_SIZE-contents.result + 1) ≡ set.ek_size + 18 = omega arith in
    let front : c.long_opening.result ≡ opening sequence (set.ek_size + 18) = c.long_opening.ensures ∙ ap (opening sequence) whole in
    let middle : c.long_opening-2.result ≡ opening bit_string (set.ek_size + 1) = c.long_opening-2.ensures ∙ ap (λ (n : ℕ). opening bit_string (n + 1)) (sym size) in
    c.write_parts.ensures ∙ (rw (front, middle, c.algorithm_identifier.ensures) refl)
