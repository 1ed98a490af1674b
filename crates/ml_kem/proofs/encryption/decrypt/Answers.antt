use Rattle.std.proofs.Common.{◌≡◌, ℕ, ◌*◌, List, drop, ap, ap₂, sym, ◌∙◌}
use Rattle.lattice_transform.specs.Transform.{inverse_transform}
use Rattle.ml_kem.specs.Encryption.{decompressed}
use Rattle.ml_kem.specs.Parameters.{Parameters}
use Rattle.ml_kem.proofs.Meanings.{decrypt-made, rest-of}
use Rattle.ml_kem.proofs.encryption.decrypt.Goals as goal

pub returns : goal.returns
returns g c =
    let bytes : List ℕ = c.args.c.now in
    let k : c.K.result ≡ c.K-2.result = c.K.ensures ∙ sym c.K-2.ensures in
    let du : c.DU.result ≡ c.DU-2.result = c.DU.ensures ∙ sym c.DU-2.ensures in
    decrypt-made g.P.ParameterSet.set c.K-2.result c.DU-2.result c.DV.result c.args.s_hat.now c.in_ok-u_hat.u_hat bytes c.read_decompressed-v.result c.ntt_inverse-masked.result c.sub.result _
    (ap (λ (s : Parameters). s.k) g.P.ParameterSet.constants ∙ sym c.K-2.ensures)
    (ap (λ (s : Parameters). s.du) g.P.ParameterSet.constants ∙ sym c.DU-2.ensures)
    (ap (λ (s : Parameters). s.dv) g.P.ParameterSet.constants ∙ sym c.DV.ensures)
    c.requires.polynomials c.in_ok-u_hat.ensures.value
    (c.read_decompressed-v.ensures ∙ ap (decompressed c.DV.result) (rest-of (32 * c.DU.result * c.K.result) bytes ∙ ap₂ (λ (b n : ℕ). drop (32 * b * n) bytes) du k))
    (c.ntt_inverse-masked.ensures ∙ ap inverse_transform c.dot.ensures) c.sub.ensures c.write_compressed.ensures
