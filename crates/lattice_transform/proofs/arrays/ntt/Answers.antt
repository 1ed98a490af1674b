use Rattle.std.proofs.Common.{◌∙◌, subst, sym}
use Rattle.module_lattice.specs.Ring.{IsPolynomial}
use Rattle.lattice_transform.proofs.Across.{polynomial-transposed}
use Rattle.lattice_transform.proofs.Polynomials.{IsPolynomial-transform}
use Rattle.lattice_transform.proofs.SevenRows.{by-rows}
use Rattle.lattice_transform.proofs.arrays.ntt.Goals as goal

pub make_layer-requires-5-clause-polynomial : goal.make_layer-requires-5-clause-polynomial
make_layer-requires-5-clause-polynomial c = subst (IsPolynomial 3329) (sym c.turn_over.ensures) (polynomial-transposed 3329 _ c.make_layer-4.ensures.polynomial)

pub new-requires : goal.new-requires
new-requires c =
    (subst (IsPolynomial 3329) (sym (by-rows c.args.f.now _ _ _ _ _ _ _ _ _ _ (subst (IsPolynomial 3329) c.narrow.ensures.value c.narrow.ensures.polynomial) c.make_layer-4.ensures.polynomial.size
    c.narrow.ensures.value c.make_layer.ensures.value c.make_layer-2.ensures.value c.make_layer-3.ensures.value c.make_layer-4.ensures.value
    c.turn_over.ensures c.make_layer-5.ensures.value c.make_layer-6.ensures.value c.make_layer-7.ensures.value (c.widened.ensures ∙ c.turn_over-2.ensures)))
    (IsPolynomial-transform c.args.f.now)).each

pub returns : goal.returns
returns c =
    c.new.ensures
    ∙ by-rows c.args.f.now _ _ _ _ _ _ _ _ _ _ (subst (IsPolynomial 3329) c.narrow.ensures.value c.narrow.ensures.polynomial) c.make_layer-4.ensures.polynomial.size
    c.narrow.ensures.value c.make_layer.ensures.value c.make_layer-2.ensures.value c.make_layer-3.ensures.value c.make_layer-4.ensures.value
    c.turn_over.ensures c.make_layer-5.ensures.value c.make_layer-6.ensures.value c.make_layer-7.ensures.value (c.widened.ensures ∙ c.turn_over-2.ensures)
