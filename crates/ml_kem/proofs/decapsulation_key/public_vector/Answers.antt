use Rattle.std.proofs.Common.{List, ℕ, length, sym, ap, ◌∙◌}
use Rattle.std.proofs.lemmas.List.{length-map}
use Rattle.std.proofs.lemmas.List.Elements.{All-same}
use Rattle.std.proofs.lemmas.Simd.{length-zip2}
use Rattle.module_lattice.specs.Pairs.{pair_products}
use Rattle.module_lattice.specs.Ring.{IsPolynomial, sum}
use Rattle.module_lattice.specs.Vectors.{dot_product, vector_sum}
use Rattle.ml_kem.proofs.Domain.{IsPolynomial-matrix_product, IsPolynomial-transforms}
use Rattle.ml_kem.proofs.decapsulation_key.public_vector.Goals as goal

pub returns-clause-long : goal.returns-clause-long
returns-clause-long g c =
    let first = ap length c.in_ok-multiplied.ensures ∙ length-map c.args.a.now (λ (row : List (List ℕ)). dot_product 3329 pair_products row c.args.s_hat.now) ∙ c.requires.count in
    ap length c.in_ok-t_hat.ensures ∙ length-zip2 (sum 3329) c.in_ok-multiplied.multiplied c.in_ok-e_hat.e_hat (first ∙ sym (c.in_ok-e_hat.ensures.long ∙ c.K-2.ensures)) ∙ first

pub returns-clause-polynomials : goal.returns-clause-polynomials
returns-clause-polynomials g c =
    All-same (IsPolynomial 3329) _ _ (c.in_ok-t_hat.ensures ∙ ap (λ (v : List (List ℕ)). vector_sum 3329 v c.in_ok-e_hat.e_hat) c.in_ok-multiplied.ensures)
    (IsPolynomial-matrix_product c.args.a.now c.args.s_hat.now c.in_ok-e_hat.e_hat
    (All-same (IsPolynomial 3329) _ _ c.in_ok-e_hat.ensures.value (IsPolynomial-transforms _)))
