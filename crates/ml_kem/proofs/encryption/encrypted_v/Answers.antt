use Rattle.std.proofs.Common.{ℕ, ◌*◌, ap, ap₂, ◌∙◌}
use Rattle.module_lattice.specs.Ring.{sum}
use Rattle.lattice_transform.specs.Transform.{inverse_transform}
use Rattle.ml_kem.specs.Matrix.{noise_polynomial}
use Rattle.ml_kem.proofs.encryption.encrypted_v.Goals as goal

pub returns : goal.returns
returns g c =
    c.add.ensures
    ∙ ap₂ (sum 3329) (c.add-noisy.ensures
    ∙ ap₂ (sum 3329) (c.ntt_inverse.ensures ∙ ap inverse_transform c.dot.ensures)
    (c.noise_polynomial-e2.ensures ∙ ap₂ (λ (eta k : ℕ). noise_polynomial g.H.KemHash.family eta c.args.r.now (2 * k)) c.ETA2.ensures c.K.ensures))
    c.read_decompressed.ensures
