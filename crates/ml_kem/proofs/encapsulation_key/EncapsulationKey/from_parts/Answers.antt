use Rattle.std.proofs.Common.{◌≡◌, ℕ, List, refl, ap, sym, subst, ◌∙◌, rules}
use Rattle.ml_kem.specs.Keys.{IsEncapsulationKey, rho_part}
use Rattle.ml_kem.specs.Parameters.{Parameters}
use Rattle.ml_kem.proofs.Encoded.{encoded-is, polynomials-narrow, rho-of}
use Rattle.ml_kem.proofs.Meanings.{IsMatrix-same}
use Rattle.ml_kem.proofs.encapsulation_key.EncapsulationKey.from_parts.Goals as goal

pub key_bytes-requires-clause-narrow : goal.key_bytes-requires-clause-narrow
key_bytes-requires-clause-narrow g c = polynomials-narrow c.args.t_hat.now c.requires.polynomials

pub invariant_of-result : goal.invariant_of-result
invariant_of-result g c =
    let set : Parameters = g.P.ParameterSet.set in
    let k : set.k ≡ g.P.ParameterSet.K = ap (λ (s : Parameters). s.k) g.P.ParameterSet.constants in
    let bytes : List ℕ = c.in_ok-bytes.bytes.items in (
      subst (λ (b : List ℕ). IsEncapsulationKey set b) (sym c.in_ok-bytes.ensures)
          (encoded-is set c.args.t_hat.now c.args.rho.now g.P.ParameterSet.is_set (c.requires.long ∙ sym k) (search rules) c.requires.polynomials),
      IsMatrix-same g.H.KemHash.family g.P.ParameterSet.K g.P.ParameterSet.K c.args.rho.now (rho_part set bytes) c.args.matrix refl
          (sym (rho-of set c.args.t_hat.now c.args.rho.now bytes c.requires.polynomials (c.requires.long ∙ sym k) c.in_ok-bytes.ensures)) c.requires.matrix,
    )
