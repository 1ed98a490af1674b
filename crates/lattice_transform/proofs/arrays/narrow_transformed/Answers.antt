use Rattle.std.proofs.Common.{subst, sym, ◌∙◌, arith, rules}
use Rattle.module_lattice.specs.Ring.{IsPolynomial}
use Rattle.lattice_transform.proofs.Filled.{filled-next, filled-none, filled-same}
use Rattle.lattice_transform.proofs.arrays.narrow_transformed.Goals as goal

pub loop-i-init : goal.loop-i-init
loop-i-init c = record {
  copied = filled-none _ _ (search rules);
  polynomial = λ none. absurd (omega (arith, none));
}

pub loop-i-preserved : goal.loop-i-preserved
loop-i-preserved c = record {
  copied = filled-next _ _ _ _ (search rules) (c.get.ensures.value ∙ c.coefficient.ensures.value) c.loop-i.invariant.copied;
  polynomial = λ some. c.coefficient.ensures.polynomial;
}

pub returns-clause-value : goal.returns-clause-value
returns-clause-value c =
    let is : IsPolynomial 3329 c.args.f.now = c.loop-i.invariant.polynomial (search rules) in
    filled-same c.loop-i.i c.args.f.now c.loop-i.rows (search rules) is.size c.loop-i.invariant.copied

pub returns-clause-polynomial : goal.returns-clause-polynomial
returns-clause-polynomial c = subst (IsPolynomial 3329) (sym (returns-clause-value c)) (c.loop-i.invariant.polynomial (search rules))
