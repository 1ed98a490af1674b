use Rattle.std.proofs.Common.{◌≡◌, ap, sym, ◌∙◌}
use Rattle.ml_kem.specs.Parameters.{Parameters}
use Rattle.ml_kem.proofs.Meanings.{expanded-read}
use Rattle.ml_kem.proofs.expanded_key.read_expanded.Goals as goal

pub returns : goal.returns
returns g c =
    let set : Parameters = g.P.ParameterSet.set in
    let k : set.k ≡ g.P.ParameterSet.K = ap (λ (s : Parameters). s.k) g.P.ParameterSet.constants in
    c.from_transforms.ensures
    ∙ expanded-read set c.K.result c.args.enc.now c.secret_bytes_of.result.now c.in_ok-s_hat.s_hat c.in_ok-ek.ek c.copied-z.result (k ∙ sym c.K.ensures)
    c.secret_bytes_of.ensures.value c.in_ok-s_hat.ensures.value (c.in_ok-ek.ensures ∙ c.public_bytes.ensures) (c.copied-z.ensures ∙ c.z_bytes.ensures.value)
