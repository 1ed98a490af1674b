use Rattle.std.proofs.Common.{◌≡◌, ℕ, List, All, length, sym, subst, ap, ◌∙◌, rules, IsTrue}
use Rattle.kem_hash.specs.Family.{Family}
use Rattle.module_lattice.specs.Ring.{IsPolynomial}
use Rattle.ml_kem.specs.Expanded.{IsExpandedKey, SecretKey, expanded_form, key_of_expanded, same_key}
use Rattle.ml_kem.specs.Keys.{IsEncapsulationKey}
use Rattle.ml_kem.specs.Parameters.{Parameters}
use Rattle.ml_kem.proofs.OwnForm.{own-equal, own-form}
use Rattle.ml_kem.proofs.decapsulation_key.DecapsulationKey.to_expanded_bytes.Goals as goal

pub returns-clause-value : goal.returns-clause-value
returns-clause-value g c = search rules

pub returns-clause-accepted : goal.returns-clause-accepted
returns-clause-accepted g c =
    let set : Parameters = g.P.ParameterSet.set in
    let family : Family = g.H.KemHash.family in
    let key : SecretKey = c.args.self.now in
    let k : set.k ≡ g.P.ParameterSet.K = ap (λ (s : Parameters). s.k) g.P.ParameterSet.constants in
    let is : c.extend_from_slice-3.new.self.items ≡ expanded_form family key = returns-clause-value g c in
    let each : All (IsPolynomial 3329) key.s_hat = subst (λ (v : List (List ℕ)). All (IsPolynomial 3329) v) c.s_hat.ensures.value c.in_ok-bytes.ensures.polynomials in
    let public : IsEncapsulationKey set key.ek = subst (λ (b : List ℕ). IsEncapsulationKey set b) c.encapsulation_key-ek.ensures.value c.as_slice.ensures.is in
    let z : length c.z.result.now ≡ 32 = search rules in
    subst (λ (b : List ℕ). IsExpandedKey set family b) (sym is)
    (own-form set family key g.P.ParameterSet.is_set g.met.H.KemHash.is_lawful (c.s_hat.ensures.long ∙ sym k) each public (ap length (sym c.z.ensures) ∙ z))

pub returns-clause-equal : goal.returns-clause-equal
returns-clause-equal g c =
    let set : Parameters = g.P.ParameterSet.set in
    let family : Family = g.H.KemHash.family in
    let key : SecretKey = c.args.self.now in
    let k : set.k ≡ g.P.ParameterSet.K = ap (λ (s : Parameters). s.k) g.P.ParameterSet.constants in
    let is : c.extend_from_slice-3.new.self.items ≡ expanded_form family key = returns-clause-value g c in
    let each : All (IsPolynomial 3329) key.s_hat = subst (λ (v : List (List ℕ)). All (IsPolynomial 3329) v) c.s_hat.ensures.value c.in_ok-bytes.ensures.polynomials in
    let public : IsEncapsulationKey set key.ek = subst (λ (b : List ℕ). IsEncapsulationKey set b) c.encapsulation_key-ek.ensures.value c.as_slice.ensures.is in
    let z : length c.z.result.now ≡ 32 = search rules in
    subst (λ (b : List ℕ). IsTrue (same_key (key_of_expanded set b) key)) (sym is)
    (own-equal set family key g.met.H.KemHash.is_lawful (c.s_hat.ensures.long ∙ sym k) each public (ap length (sym c.z.ensures) ∙ z))
