use Rattle.std.proofs.Common.{◌≡◌, ℕ, ◌-◌, [], ◌∷◌, sym, ap, ◌∙◌}
use Rattle.ml_kem.specs.Parameters.{Parameters}
use Rattle.key_der.proofs.Texts.{oid-bytes}
use Rattle.key_der.proofs.identifier.oid.Goals as goal

pub returns : goal.returns
returns g c =
    let set : Parameters = g.P.ParameterSet.set in
    let k : set.k ≡ c.K.result = ap (λ (s : Parameters). s.k) g.P.ParameterSet.constants ∙ sym c.K.ensures in
    ap (λ (n : ℕ). 0x60 ∷ 0x86 ∷ 0x48 ∷ 0x01 ∷ 0x65 ∷ 0x03 ∷ 0x04 ∷ 0x04 ∷ (n - 1) ∷ []) (sym k)
    ∙ sym (oid-bytes set g.P.ParameterSet.is_set)
