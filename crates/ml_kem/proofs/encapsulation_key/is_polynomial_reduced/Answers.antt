use Rattle.std.proofs.Common.{◌∙◌, arith}
use Rattle.ml_kem.proofs.Reduced.{reduced-answer}
use Rattle.ml_kem.proofs.encapsulation_key.is_polynomial_reduced.Goals as goal

pub returns : goal.returns
returns c = reduced-answer c.to_bool.result c.args.bytes.now c.byte_decode.new.out c.byte_encode.new.out c.requires (λ i. omega (arith, c.type_inv.bytes i)) c.byte_decode.ensures.value c.byte_encode.ensures
    (c.to_bool.ensures ∙ c.ct_eq_slice.ensures)
