use Rattle.std.proofs.Common.{◌≡◌, ℕ, List, ◌++◌, ◌∷◌, [], ◌+◌, ap, ap₂, ◌∙◌, arith}
use Rattle.module_lattice.specs.Pairs.{pair_products}
use Rattle.module_lattice.specs.Ring.{sum}
use Rattle.module_lattice.specs.Vectors.{dot_product}
use Rattle.lattice_transform.specs.Transform.{inverse_transform}
use Rattle.ml_kem.specs.Matrix.{column, noise_polynomial}
use Rattle.ml_kem.proofs.Building.{values-more}
use Rattle.ml_kem.proofs.encryption.encrypted_u.Goals as goal

pub loop-i-preserved : goal.loop-i-preserved
loop-i-preserved g c =
    let i : ℕ = c.loop-i.i in
    let noise_of : ℕ → List ℕ = λ j. noise_polynomial g.H.KemHash.family g.P.ParameterSet.ETA2 c.args.r.now (g.P.ParameterSet.K + j) in
    let dot : ℕ → List ℕ = λ j. inverse_transform (dot_product 3329 pair_products (column c.args.a.now j) c.args.y_hat.now) in
    let e1 : c.noise_polynomial-e1.result ≡ noise_of i = cc in
    let masked : c.ntt_inverse.result ≡ dot i = cc in
    c.in_ok-push.ensures.items
    ∙ ap (λ y. c.loop-i.items.items ++ y ∷ []) (c.add.ensures ∙ ap₂ (sum 3329) masked e1)
    ∙ values-more (λ j. sum 3329 (dot j) (noise_of j)) c.loop-i.items.items 0 i i (omega arith) c.loop-i.invariant
