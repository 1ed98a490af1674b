use Rattle.std.proofs.Common.{◌≡◌, ℕ, List, Vec, Global, Some, ◌++◌, drop, ap, ap₂, sym, ◌∙◌}
use Rattle.std.proofs.lemmas.Result.{err_from_is_err_and}
use Rattle.kem_hash.specs.Family.{Family}
use Rattle.ml_kem.specs.Encapsulation.{encaps, key_and_coins}
use Rattle.ml_kem.specs.Encryption.{encrypt}
use Rattle.ml_kem.proofs.Meanings.{encaps-none, encaps-some, refused}
use Rattle.ml_kem.proofs.encapsulation_key.EncapsulationKey.encapsulate_deterministic.Goals as goal

pub returns-in_err-c-clause-value : goal.returns-in_err-c-clause-value
returns-in_err-c-clause-value g c =
    let p = err_from_is_err_and c.from_residual.result c.from_residual.ensures.1 in
    let family : Family = g.H.KemHash.family in
    let ek : List ℕ = c.args.self.now in
    let m : List ℕ = c.args.m.now in
    let made : c.g-made.result ≡ key_and_coins family ek m =
    c.g-made.ensures ∙ ap (λ (x : List ℕ). family.g_of (m ++ x)) (c.h.ensures ∙ ap family.h_of (c.as_slice.ensures.value ∙ c.self.view_is)) in
    let same : encrypt g.P.ParameterSet.set family ek m (drop 32 c.g-made.result) ≡ encrypt g.P.ParameterSet.set family ek m c.halves.result.1 =
    ap (encrypt g.P.ParameterSet.set family ek m) (sym c.halves.ensures.second) in
    rw (p.1, p.2) (refused (λ (bytes : Vec ℕ Global). bytes.items) (λ (made : List ℕ × List ℕ). (made.0, made.1)) c.in_err-c.field-0.0
    (encrypt g.P.ParameterSet.set family ek m c.halves.result.1) (encaps g.P.ParameterSet.set family ek m)
    c.in_err-c.ensures.value (λ none. encaps-none g.P.ParameterSet.set family ek m c.g-made.result made (same ∙ none)))

pub returns-clause-value : goal.returns-clause-value
returns-clause-value g c =
    let family : Family = g.H.KemHash.family in
    let ek : List ℕ = c.args.self.now in
    let m : List ℕ = c.args.m.now in
    let made : c.g-made.result ≡ key_and_coins family ek m =
    c.g-made.ensures ∙ ap (λ (x : List ℕ). family.g_of (m ++ x)) (c.h.ensures ∙ ap family.h_of (c.as_slice.ensures.value ∙ c.self.view_is)) in
    let same : encrypt g.P.ParameterSet.set family ek m (drop 32 c.g-made.result) ≡ encrypt g.P.ParameterSet.set family ek m c.halves.result.1 =
    ap (encrypt g.P.ParameterSet.set family ek m) (sym c.halves.ensures.second) in
    encaps-some g.P.ParameterSet.set family ek m c.g-made.result c.in_ok-c.c.items made (same ∙ c.in_ok-c.ensures.value)
    ∙ ap₂ (λ (a b : List ℕ). Some (a, b)) (sym c.from_vec.ensures) (sym c.halves.ensures.first)
