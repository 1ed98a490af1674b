use Rattle.std.proofs.Common.{refl}
use Rattle.ml_kem.specs.Keys.{IsEncapsulationKey}
use Rattle.ml_kem.specs.Parameters.{Parameters}
use Rattle.key_der.specs.Keys.{public_header}
use Rattle.key_der.specs.Reading.{IsPublicKey}
use Rattle.key_der.proofs.Answered.{is_public_key}
use Rattle.key_der.proofs.public_key.to_public_key_der.Goals as goal

pub returns-clause-value : goal.returns-clause-value
returns-clause-value g c =
    let set : Parameters = g.P.ParameterSet.set in
    let key : IsEncapsulationKey set c.args.key.now = c.in_ok-der.ensures.is in
    let is : IsPublicKey set c.args.key.now c.in_ok-der.der.items =
    is_public_key set (public_header set) c.args.key.now c.in_ok-der.der.items g.P.ParameterSet.is_set refl c.in_ok-der.ensures.text key.size in
    is.spelled

pub returns-clause-read : goal.returns-clause-read
returns-clause-read g c =
    let set : Parameters = g.P.ParameterSet.set in
    let key : IsEncapsulationKey set c.args.key.now = c.in_ok-der.ensures.is in
    (is_public_key set (public_header set) c.args.key.now c.in_ok-der.der.items g.P.ParameterSet.is_set refl c.in_ok-der.ensures.text key.size, key)
