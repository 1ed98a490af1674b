use Rattle.std.proofs.Common.{◌≡◌, ℕ, ◌+◌, ◌-◌, ◌*◌, take, drop, sym, ap, ap₂, ◌∙◌, arith}
use Rattle.ml_kem.specs.Parameters.{Parameters}
use Rattle.ml_kem.proofs.expanded_key.hash_bytes.Goals as goal

pub returns : goal.returns
returns g c =
    let set : Parameters = g.P.ParameterSet.set in
    let k : set.k ≡ g.P.ParameterSet.K = ap (λ (s : Parameters). s.k) g.P.ParameterSet.constants in
    let ek : set.ek_size ≡ g.P.ParameterSet.EK_SIZE = ap (λ (s : Parameters). s.ek_size) g.P.ParameterSet.constants in
    let size : 384 * c.K.result + c.EK_SIZE.result + 32 - (384 * c.K.result + c.EK_SIZE.result) ≡ 32 = omega arith in
    ap₂ (λ (n m : ℕ). take n (drop m c.args.enc.now)) size
    (ap₂ (λ (a b : ℕ). 384 * a + b) (c.K.ensures ∙ sym k) (c.EK_SIZE.ensures ∙ sym ek))
