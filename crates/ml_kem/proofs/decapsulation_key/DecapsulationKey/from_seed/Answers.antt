use Rattle.std.proofs.Common.{◌≡◌, ℕ, ◌++◌, ◌∷◌, [], List, All, None, Some, length, take, map, refl, sym, ap, ap₂, ◌∙◌}
use Rattle.std.proofs.lemmas.List.{length-map}
use Rattle.std.proofs.lemmas.List.Elements.{All-same}
use Rattle.std.proofs.lemmas.Result.{err_from_is_err_and}
use Rattle.std.specs.List.{flat_map}
use Rattle.std.specs.Option.{option_map}
use Rattle.kem_hash.specs.Family.{Family}
use Rattle.module_lattice.specs.Groups.{groups}
use Rattle.module_lattice.specs.Pairs.{pair_products}
use Rattle.module_lattice.specs.Ring.{IsPolynomial}
use Rattle.module_lattice.specs.Vectors.{matrix_product, vector_sum}
use Rattle.lattice_transform.specs.Transform.{inverse_transform, transform}
use Rattle.ml_kem.specs.Expanded.{SecretKey, key_of_seed}
use Rattle.ml_kem.specs.Keys.{expanded_seed, key_of, rho_part}
use Rattle.ml_kem.specs.Matrix.{matrix, noise}
use Rattle.ml_kem.specs.Parameters.{Parameters}
use Rattle.ml_kem.proofs.Domain.{IsPolynomial-transforms}
use Rattle.ml_kem.proofs.Encoded.{polynomials-narrow, rho-of}
use Rattle.ml_kem.proofs.Generated.{key_of-none, key_of-some}
use Rattle.ml_kem.proofs.Meanings.{refused, IsMatrix-same}
use Rattle.ml_kem.proofs.decapsulation_key.DecapsulationKey.from_seed.Goals as goal

none-some : (rows : List (List (List ℕ))) → None ≡ Some rows → ⊥
none-some rows same = cc

pub returns-in_err-a-clause-value : goal.returns-in_err-a-clause-value
returns-in_err-a-clause-value g c =
    let set : Parameters = g.P.ParameterSet.set in
    let family : Family = g.H.KemHash.family in
    let k : set.k ≡ g.P.ParameterSet.K = ap (λ (s : Parameters). s.k) g.P.ParameterSet.constants in
    let made : c.g-made.result ≡ expanded_seed set family c.args.seed.now =
    c.g-made.ensures ∙ ap₂ (λ (d : List ℕ) (n : ℕ). family.g_of (d ++ n ∷ [])) c.halves.ensures.first (c.K.ensures ∙ sym k) in
    let same : matrix family set.k (take 32 c.g-made.result) ≡ matrix family c.K-2.result c.halves-2.result.0 =
    ap₂ (matrix family) (k ∙ sym c.K-2.ensures) (sym c.halves-2.ensures.first) in
    let p = err_from_is_err_and c.from_residual.result c.from_residual.ensures.1 in
    rw (p.1, p.2) (refused (λ (a : List (List (List ℕ))). map (map inverse_transform) a) (λ (key : SecretKey). key) c.in_err-a.field-0.0
    (matrix family c.K-2.result c.halves-2.result.0) (option_map (key_of_seed c.args.seed.now) (key_of set family c.args.seed.now))
    c.in_err-a.ensures.value (λ none. key_of-none set family c.args.seed.now c.g-made.result made (same ∙ none)))

pub from_parts-requires-clause-matrix : goal.from_parts-requires-clause-matrix
from_parts-requires-clause-matrix g c =
    IsMatrix-same g.H.KemHash.family c.K-2.result g.P.ParameterSet.K c.halves-2.result.0 c.halves-2.result.0 c.in_ok-a.a c.K-2.ensures refl c.in_ok-a.ensures.is

pub invariant_of-result : goal.invariant_of-result
invariant_of-result g c =
    let set : Parameters = g.P.ParameterSet.set in
    let family : Family = g.H.KemHash.family in
    let k : set.k ≡ g.P.ParameterSet.K = ap (λ (s : Parameters). s.k) g.P.ParameterSet.constants in
    let s_hat : List (List ℕ) = c.in_ok-s_hat.s_hat in
    let long : length s_hat ≡ set.k = c.in_ok-s_hat.ensures.long ∙ c.K-3.ensures ∙ sym k in
    let each : All (IsPolynomial 3329) s_hat = All-same (IsPolynomial 3329) _ _ c.in_ok-s_hat.ensures.value (IsPolynomial-transforms _) in
    let rho : rho_part set c.in_ok-ek.ek ≡ c.halves-2.result.0 =
    rho-of set c.in_ok-t_hat.t_hat c.halves-2.result.0 c.in_ok-ek.ek c.in_ok-t_hat.ensures.polynomials (c.in_ok-t_hat.ensures.long ∙ sym k) c.in_ok-ek.ensures in
    let some : matrix family set.k (rho_part set c.in_ok-ek.ek) ≡ Some (map (map inverse_transform) c.in_ok-a.a) =
    ap₂ (matrix family) (k ∙ sym c.K-2.ensures) rho ∙ c.in_ok-a.ensures.value in
    let made : c.g-made.result ≡ expanded_seed set family c.args.seed.now =
    c.g-made.ensures ∙ ap₂ (λ (d : List ℕ) (n : ℕ). family.g_of (d ++ n ∷ [])) c.halves.ensures.first (c.K.ensures ∙ sym k) in
    let same : matrix family set.k (take 32 c.g-made.result) ≡ matrix family c.K-2.result c.halves-2.result.0 =
    ap₂ (matrix family) (k ∙ sym c.K-2.ensures) (sym c.halves-2.ensures.first) in
    let eta1 : set.eta1 ≡ g.P.ParameterSet.ETA1 = ap (λ (s : Parameters). s.eta1) g.P.ParameterSet.constants in
    let second = c.halves-2.ensures.second in (
      record {
        s_long = length-map s_hat inverse_transform ∙ long;
        s_hat_long = long;
        s_hat_narrow = polynomials-narrow s_hat each;
        seeded = key_of-some set family c.args.seed.now c.g-made.result g.P.ParameterSet.K g.P.ParameterSet.ETA1 c.in_ok-a.a c.in_ok-s_hat.s_hat c.in_ok-t_hat.t_hat
            c.in_ok-ek.ek c.halves.result.1 made k eta1 (same ∙ c.in_ok-a.ensures.value) c.in_ok-a.ensures.is.polynomials
            (c.in_ok-s_hat.ensures.value ∙ ap₂ (λ (e n : ℕ). map transform (noise family e c.halves-2.result.1 0 n)) c.ETA1.ensures c.K-3.ensures
            ∙ ap (λ (x : List ℕ). map transform (noise family g.P.ParameterSet.ETA1 x 0 g.P.ParameterSet.K)) second)
            (c.in_ok-t_hat.ensures.value
            ∙ ap (λ (x : List ℕ). vector_sum 3329 (matrix_product 3329 pair_products c.in_ok-a.a c.in_ok-s_hat.s_hat) (map transform (noise family g.P.ParameterSet.ETA1 x g.P.ParameterSet.K g.P.ParameterSet.K))) second)
            (c.in_ok-ek.ensures ∙ ap (λ (r : List ℕ). flat_map (groups 12) c.in_ok-t_hat.t_hat ++ r) c.halves-2.ensures.first)
            c.halves.ensures.second;
        sampled = λ seeded none. none-some (map (map inverse_transform) c.in_ok-a.a) (sym none ∙ some);
      },
      each,
    )

pub returns-clause-value : goal.returns-clause-value
returns-clause-value g c =
    let set : Parameters = g.P.ParameterSet.set in
    let family : Family = g.H.KemHash.family in
    let k : set.k ≡ g.P.ParameterSet.K = ap (λ (s : Parameters). s.k) g.P.ParameterSet.constants in
    let made : c.g-made.result ≡ expanded_seed set family c.args.seed.now =
    c.g-made.ensures ∙ ap₂ (λ (d : List ℕ) (n : ℕ). family.g_of (d ++ n ∷ [])) c.halves.ensures.first (c.K.ensures ∙ sym k) in
    let same : matrix family set.k (take 32 c.g-made.result) ≡ matrix family c.K-2.result c.halves-2.result.0 =
    ap₂ (matrix family) (k ∙ sym c.K-2.ensures) (sym c.halves-2.ensures.first) in
    let eta1 : set.eta1 ≡ g.P.ParameterSet.ETA1 = ap (λ (s : Parameters). s.eta1) g.P.ParameterSet.constants in
    let second = c.halves-2.ensures.second in
    key_of-some set family c.args.seed.now c.g-made.result g.P.ParameterSet.K g.P.ParameterSet.ETA1 c.in_ok-a.a c.in_ok-s_hat.s_hat c.in_ok-t_hat.t_hat
    c.in_ok-ek.ek c.halves.result.1 made k eta1 (same ∙ c.in_ok-a.ensures.value) c.in_ok-a.ensures.is.polynomials
    (c.in_ok-s_hat.ensures.value ∙ ap₂ (λ (e n : ℕ). map transform (noise family e c.halves-2.result.1 0 n)) c.ETA1.ensures c.K-3.ensures
    ∙ ap (λ (x : List ℕ). map transform (noise family g.P.ParameterSet.ETA1 x 0 g.P.ParameterSet.K)) second)
    (c.in_ok-t_hat.ensures.value
    ∙ ap (λ (x : List ℕ). vector_sum 3329 (matrix_product 3329 pair_products c.in_ok-a.a c.in_ok-s_hat.s_hat) (map transform (noise family g.P.ParameterSet.ETA1 x g.P.ParameterSet.K g.P.ParameterSet.K))) second)
    (c.in_ok-ek.ensures ∙ ap (λ (r : List ℕ). flat_map (groups 12) c.in_ok-t_hat.t_hat ++ r) c.halves-2.ensures.first)
    c.halves.ensures.second
