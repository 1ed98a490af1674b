use Rattle.std.proofs.Common.{◌≡◌, ℕ, ◌+◌, ◌-◌, ◌*◌, take, drop, sym, ap, ap₂, ◌∙◌, arith}
use Rattle.ml_kem.specs.Parameters.{Parameters}
use Rattle.ml_kem.proofs.expanded_key.public_bytes.Goals as goal

pub returns : goal.returns
returns g c =
    let set : Parameters = g.P.ParameterSet.set in
    let k : set.k ≡ g.P.ParameterSet.K = ap (λ (s : Parameters). s.k) g.P.ParameterSet.constants in
    let ek : set.ek_size ≡ g.P.ParameterSet.EK_SIZE = ap (λ (s : Parameters). s.ek_size) g.P.ParameterSet.constants in
    let size : 384 * c.K-start.result + c.EK_SIZE.result - 384 * c.K-start.result ≡ c.EK_SIZE.result = omega arith in
    ap₂ (λ (n m : ℕ). take n (drop m c.args.enc.now)) (size ∙ c.EK_SIZE.ensures ∙ sym ek)
    (ap (λ (a : ℕ). 384 * a) (c.K-start.ensures ∙ sym k))
