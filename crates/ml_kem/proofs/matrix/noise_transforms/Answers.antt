use Rattle.std.proofs.Common.{ℕ, List, ◌++◌, ◌∷◌, [], ◌+◌, refl, sym, length, ap, ◌∙◌, arith}
use Rattle.std.specs.List.{range_with_len}
use Rattle.std.proofs.lemmas.Simd.{map-map}
use Rattle.lattice_transform.specs.Transform.{transform}
use Rattle.ml_kem.specs.Matrix.{noise, noise_polynomial}
use Rattle.ml_kem.proofs.Building.{length-values, values-all, values-more}
use Rattle.ml_kem.proofs.matrix.noise_transforms.Goals as goal

pub loop-i-preserved : goal.loop-i-preserved
loop-i-preserved g c =
    let each : ℕ → List ℕ = λ b. transform (noise_polynomial g.H.KemHash.family c.args.eta c.args.seed.now b) in
    c.in_ok-push.ensures.items ∙ ap (λ y. c.loop-i.items.items ++ y ∷ []) (c.ntt.ensures ∙ ap transform c.noise_polynomial.ensures)
    ∙ values-more each c.loop-i.items.items c.args.first c.loop-i.i (c.args.first + c.loop-i.i) refl c.loop-i.invariant

pub returns-clause-value : goal.returns-clause-value
unfolding noise
returns-clause-value g c =
    let polynomial : ℕ → List ℕ = noise_polynomial g.H.KemHash.family c.args.eta c.args.seed.now in
    c.new.ensures ∙ values-all (λ b. transform (polynomial b)) c.loop-i.items.items c.args.first c.loop-i.i c.args.count (omega arith) c.loop-i.invariant
    ∙ sym (map-map transform polynomial (range_with_len c.args.first c.args.count))

pub returns-clause-long : goal.returns-clause-long
returns-clause-long g c =
    let each : ℕ → List ℕ = λ b. transform (noise_polynomial g.H.KemHash.family c.args.eta c.args.seed.now b) in
    ap length c.new.ensures ∙ length-values each c.loop-i.items.items c.args.first c.loop-i.i c.loop-i.invariant ∙ omega arith
