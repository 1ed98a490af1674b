use Rattle.std.proofs.Common.{◌≡◌, List, ℕ, Some, refl, sym, ◌∙◌}
use Rattle.ml_kem.specs.Parameters.{Parameters}
use Rattle.key_der.specs.Keys.{private_header}
use Rattle.key_der.specs.Reading.{IsPrivateKey}
use Rattle.key_der.proofs.Answered.{is_private_key}
use Rattle.key_der.proofs.private_key.to_pkcs8_der.Goals as goal

pub returns-clause-value : goal.returns-clause-value
returns-clause-value g c =
    let set : Parameters = g.P.ParameterSet.set in
    let seed : List ℕ = c.in-Some.seed in
    let is : IsPrivateKey set seed c.in_ok-der.der.items =
    is_private_key set (private_header set) seed c.in_ok-der.der.items g.P.ParameterSet.is_set refl c.in_ok-der.ensures.text c.private_text.ensures.size in
    let held : c.args.key.now.seed ≡ Some seed = sym c.to_seed.ensures.value ∙ c.in-Some.is in
    rw held is.spelled

pub returns-clause-read : goal.returns-clause-read
returns-clause-read g c =
    let set : Parameters = g.P.ParameterSet.set in
    let seed : List ℕ = c.in-Some.seed in
    let is : IsPrivateKey set seed c.in_ok-der.der.items =
    is_private_key set (private_header set) seed c.in_ok-der.der.items g.P.ParameterSet.is_set refl c.in_ok-der.ensures.text c.private_text.ensures.size in
    (seed, is, c.in-Some.ensures.made)
