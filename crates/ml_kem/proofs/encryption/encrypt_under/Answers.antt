use Rattle.std.proofs.Common.{◌≡◌, ℕ, ◌*◌, List, take, map, ap, sym, ◌∙◌}
use Rattle.lattice_transform.specs.Transform.{inverse_transform}
use Rattle.ml_kem.specs.Keys.{rho_part, ring_vector}
use Rattle.ml_kem.specs.Matrix.{matrix}
use Rattle.ml_kem.specs.Parameters.{Parameters}
use Rattle.ml_kem.proofs.Meanings.{encrypt-some, ring_vector-read}
use Rattle.ml_kem.proofs.encryption.encrypt_under.Goals as goal

pub returns-clause-value : goal.returns-clause-value
returns-clause-value g c =
    let set : Parameters = g.P.ParameterSet.set in
    let ek : List ℕ = c.args.ek.now in
    let k : set.k ≡ g.P.ParameterSet.K = ap (λ (s : Parameters). s.k) g.P.ParameterSet.constants in
    encrypt-some set g.H.KemHash.family ek c.args.m.now c.args.r.now c.in_ok-c.c.items (map (map inverse_transform) c.args.a.now) (map inverse_transform c.in_ok-t_hat.t_hat)
    (ap (λ (n : ℕ). matrix g.H.KemHash.family n (rho_part set ek)) k ∙ c.requires.matrix.made)
    (ring_vector-read set c.K.result (take (384 * c.K-2.result) ek) c.in_ok-t_hat.t_hat (k ∙ sym c.K.ensures) c.in_ok-t_hat.ensures.value
    ∙ ap (λ (n : ℕ). ring_vector set (take (384 * n) ek)) (c.K-2.ensures ∙ sym k))
    c.in_ok-c.ensures.value
