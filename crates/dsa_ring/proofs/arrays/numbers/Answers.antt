use Rattle.std.proofs.Common.{ℕ, subst, sym, ◌∙◌, arith, rules}
use Rattle.std.proofs.lemmas.List.{length-replicate, length-set}
use Rattle.module_lattice.specs.Ring.{IsPolynomial}
use Rattle.dsa_ring.proofs.Copies.{all-copied, one-more}
use Rattle.dsa_ring.proofs.arrays.numbers.Goals as goal

pub loop-i-init : goal.loop-i-init
loop-i-init c = record {
  size = length-replicate {A = ℕ} 256 0;
  copied = λ k none. absurd (omega (arith, none));
  polynomial = λ none. absurd (omega (arith, none));
}

pub loop-i-preserved : goal.loop-i-preserved
loop-i-preserved c = record {
  size = length-set c.loop-i.values c.loop-i.i c.get.result ∙ c.loop-i.invariant.size;
  copied = one-more c.loop-i.i c.get.result c.args.f.now c.loop-i.values (omega (arith, c.loop-i.invariant.size))
      (c.get.ensures.value ∙ c.coefficient.ensures.value) c.loop-i.invariant.copied;
  polynomial = λ some. c.coefficient.ensures.polynomial;
}

pub returns-clause-value : goal.returns-clause-value
returns-clause-value c =
    let is : IsPolynomial 8380417 c.args.f.now = c.loop-i.invariant.polynomial (search rules) in
    all-copied c.loop-i.i c.args.f.now c.loop-i.values (search rules) c.loop-i.invariant.size is.size c.loop-i.invariant.copied

pub returns-clause-polynomial : goal.returns-clause-polynomial
returns-clause-polynomial c = subst (IsPolynomial 8380417) (sym (returns-clause-value c)) (c.loop-i.invariant.polynomial (search rules))
