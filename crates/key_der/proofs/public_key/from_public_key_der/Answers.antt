use Rattle.std.proofs.Common.{◌≡◌, Err, sym, ap, ◌∙◌}
use Rattle.std.proofs.lemmas.Result.{err_from_is_err_and}
use Rattle.ml_kem.specs.Parameters.{Parameters}
use Rattle.key_der.specs.Reading.{IsPublicKey}
use Rattle.key_der.proofs.Answered.{is_public_key, refused_key}
use Rattle.key_der.proofs.public_key.from_public_key_der.Goals as goal

pub returns-in_err-key : goal.returns-in_err-key
returns-in_err-key g c =
    let set : Parameters = g.P.ParameterSet.set in
    let sized : c.EK_SIZE.result ≡ set.ek_size = c.EK_SIZE.ensures ∙ sym (ap (λ (s : Parameters). s.ek_size) g.P.ParameterSet.constants) in
    let is : IsPublicKey set c.in-Ok.bytes.now c.args.der.now =
    is_public_key set c.public_header.result c.in-Ok.bytes.now c.args.der.now g.P.ParameterSet.is_set c.public_header.ensures c.in-Ok.ensures.whole (c.in-Ok.ensures.size ∙ sized) in
    let error = err_from_is_err_and c.from_residual.result c.from_residual.ensures.1 in
    rw (error.1, error.2) (refused_key set c.in-Ok.bytes.now c.args.der.now c.in_err-key.field-0.0 is (λ invalid. c.in_err-key.ensures.invalid.0 (ap Err invalid)))

pub returns : goal.returns
returns g c =
    let set : Parameters = g.P.ParameterSet.set in
    let sized : c.EK_SIZE.result ≡ set.ek_size = c.EK_SIZE.ensures ∙ sym (ap (λ (s : Parameters). s.ek_size) g.P.ParameterSet.constants) in
    let is : IsPublicKey set c.in-Ok.bytes.now c.args.der.now =
    is_public_key set c.public_header.result c.in-Ok.bytes.now c.args.der.now g.P.ParameterSet.is_set c.public_header.ensures c.in-Ok.ensures.whole (c.in-Ok.ensures.size ∙ sized) in
    rw c.in_ok-key.ensures.value (is, c.in_ok-key.ensures.accepted)
