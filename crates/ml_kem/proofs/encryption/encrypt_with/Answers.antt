use Rattle.std.proofs.Common.{ℕ, map, ap₂, ◌∙◌}
use Rattle.lattice_transform.specs.Transform.{transform}
use Rattle.ml_kem.specs.Matrix.{noise}
use Rattle.ml_kem.proofs.Meanings.{encrypted-made}
use Rattle.ml_kem.proofs.encryption.encrypt_with.Goals as goal

pub returns-clause-value : goal.returns-clause-value
returns-clause-value g c =
    encrypted-made g.P.ParameterSet.set g.H.KemHash.family _ _ _ _ _ _ _ _ c.args.t_hat.now c.in_ok-y_hat.y_hat c.in_ok-u.u c.args.m.now c.args.r.now c.encrypted_v-v.result
    c.in_ok-c.c.items c.args.a.now g.P.ParameterSet.constants c.requires.rows c.requires.polynomials c.requires.t_polynomials
    (c.in_ok-y_hat.ensures.value ∙ ap₂ (λ (e k : ℕ). map transform (noise g.H.KemHash.family e c.args.r.now 0 k)) c.ETA1.ensures c.K.ensures)
    c.in_ok-u.ensures.value c.encrypted_v-v.ensures c.in_ok-c.ensures.value
