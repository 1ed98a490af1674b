use Rattle.std.proofs.Common.{List, ℕ}
use Rattle.std.proofs.lemmas.Result.{err_from_is_err_and}
use Rattle.ml_kem.specs.Keys.{key_of}
use Rattle.ml_kem.specs.Parameters.{Parameters}
use Rattle.key_der.specs.Reading.{IsPrivateKey}
use Rattle.key_der.proofs.Answered.{is_copied_key, refused_seed, written_again}
use Rattle.key_der.proofs.private_key.from_pkcs8_der.Goals as goal

pub returns-in_err-key-clause-value : goal.returns-in_err-key-clause-value
returns-in_err-key-clause-value g c =
    let set : Parameters = g.P.ParameterSet.set in
    let seed : List ℕ = c.copy_from_slice.new.self in
    let is : IsPrivateKey set seed c.args.der.now =
    is_copied_key set c.private_header.result c.in-Ok.bytes.now seed c.args.der.now g.P.ParameterSet.is_set c.private_header.ensures c.in-Ok.ensures.whole c.in-Ok.ensures.size c.copy_from_slice.ensures.after in
    let error = err_from_is_err_and c.from_residual.result c.from_residual.ensures.1 in
    rw (error.1, error.2) (refused_seed set g.H.KemHash.family seed c.args.der.now c.in_err-key.field-0.0 is c.in_err-key.ensures.value)

pub returns-clause-value : goal.returns-clause-value
returns-clause-value g c =
    let set : Parameters = g.P.ParameterSet.set in
    let seed : List ℕ = c.copy_from_slice.new.self in
    let is : IsPrivateKey set seed c.args.der.now =
    is_copied_key set c.private_header.result c.in-Ok.bytes.now seed c.args.der.now g.P.ParameterSet.is_set c.private_header.ensures c.in-Ok.ensures.whole c.in-Ok.ensures.size c.copy_from_slice.ensures.after in
    (seed, is, c.in_ok-key.ensures.value)

pub returns-clause-written : goal.returns-clause-written
returns-clause-written g c =
    let set : Parameters = g.P.ParameterSet.set in
    let seed : List ℕ = c.copy_from_slice.new.self in
    let is : IsPrivateKey set seed c.args.der.now =
    is_copied_key set c.private_header.result c.in-Ok.bytes.now seed c.args.der.now g.P.ParameterSet.is_set c.private_header.ensures c.in-Ok.ensures.whole c.in-Ok.ensures.size c.copy_from_slice.ensures.after in
    written_again set seed c.args.der.now (key_of set g.H.KemHash.family seed) c.in_ok-key.key is c.in_ok-key.ensures.value
