use Rattle.std.proofs.Common.{◌≡◌, sym, ap, ◌∙◌, arith}
use Rattle.ml_kem.specs.Parameters.{Parameters}
use Rattle.ml_kem.proofs.encapsulation_key.is_encapsulation_key.Goals as goal

pub returns-then-bytes-EK_SIZE : goal.returns-then-bytes-EK_SIZE
returns-then-bytes-EK_SIZE g c =
    let set : Parameters = g.P.ParameterSet.set in
    let k : set.k ≡ c.K.result = ap (λ (s : Parameters). s.k) g.P.ParameterSet.constants ∙ sym c.K.ensures in
    let size : set.ek_size ≡ c.EK_SIZE.result = ap (λ (s : Parameters). s.ek_size) g.P.ParameterSet.constants ∙ sym c.EK_SIZE.ensures in (
      λ t. record {
        size = c.if-bytes-EK_SIZE.true ∙ sym size;
        reduced = λ i lt. c.is_reduced.ensures.0 t i (omega (arith, k));
      },
      λ is. c.is_reduced.ensures.1 (λ i lt. is.reduced i (omega (arith, k))),
    )
