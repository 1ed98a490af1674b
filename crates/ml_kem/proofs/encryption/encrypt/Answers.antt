use Rattle.std.proofs.Common.{◌≡◌, ℕ, ◌*◌, List, Vec, Global, drop, map, ap, ap₂, sym, ◌∙◌}
use Rattle.std.proofs.lemmas.Result.{err_from_is_err_and}
use Rattle.lattice_transform.specs.Transform.{inverse_transform}
use Rattle.ml_kem.specs.Encryption.{encrypt}
use Rattle.ml_kem.specs.Keys.{rho_part}
use Rattle.ml_kem.specs.Matrix.{matrix}
use Rattle.ml_kem.specs.Parameters.{Parameters}
use Rattle.ml_kem.proofs.Meanings.{encrypt-none, refused, rest-of, IsMatrix-same}
use Rattle.ml_kem.proofs.encryption.encrypt.Goals as goal

pub returns-in_err-a-clause-value : goal.returns-in_err-a-clause-value
returns-in_err-a-clause-value g c =
    let p = err_from_is_err_and c.from_residual.result c.from_residual.ensures.1 in
    let set : Parameters = g.P.ParameterSet.set in
    let k : set.k ≡ g.P.ParameterSet.K = ap (λ (s : Parameters). s.k) g.P.ParameterSet.constants in
    let rho : c.copied-rho.result ≡ rho_part set c.args.ek.now =
    c.copied-rho.ensures ∙ rest-of (384 * c.K.result) c.args.ek.now ∙ ap (λ (n : ℕ). drop (384 * n) c.args.ek.now) (c.K.ensures ∙ sym k) in
    let same : matrix g.H.KemHash.family set.k (rho_part set c.args.ek.now) ≡ matrix g.H.KemHash.family c.K-2.result c.copied-rho.result =
    ap₂ (matrix g.H.KemHash.family) (k ∙ sym c.K-2.ensures) (sym rho) in
    rw (p.1, p.2) (refused (λ (a : List (List (List ℕ))). map (map inverse_transform) a) (λ (bytes : Vec ℕ Global). bytes.items) c.in_err-a.field-0.0
    (matrix g.H.KemHash.family c.K-2.result c.copied-rho.result) (encrypt set g.H.KemHash.family c.args.ek.now c.args.m.now c.args.r.now)
    c.in_err-a.ensures.value (λ none. encrypt-none set g.H.KemHash.family c.args.ek.now c.args.m.now c.args.r.now (same ∙ none)))

pub encrypt_under-requires-clause-matrix : goal.encrypt_under-requires-clause-matrix
encrypt_under-requires-clause-matrix g c =
    let set : Parameters = g.P.ParameterSet.set in
    let k : set.k ≡ g.P.ParameterSet.K = ap (λ (s : Parameters). s.k) g.P.ParameterSet.constants in
    let rho : c.copied-rho.result ≡ rho_part set c.args.ek.now =
    c.copied-rho.ensures ∙ rest-of (384 * c.K.result) c.args.ek.now ∙ ap (λ (n : ℕ). drop (384 * n) c.args.ek.now) (c.K.ensures ∙ sym k) in
    IsMatrix-same g.H.KemHash.family c.K-2.result g.P.ParameterSet.K c.copied-rho.result (rho_part set c.args.ek.now) c.in_ok-a.a c.K-2.ensures rho c.in_ok-a.ensures.is
