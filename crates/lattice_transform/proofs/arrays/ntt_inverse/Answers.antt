use Rattle.std.proofs.Common.{◌∙◌, ap, subst, sym}
use Rattle.module_lattice.specs.Ring.{IsPolynomial}
use Rattle.lattice_transform.specs.private.Rows.{transposed}
use Rattle.lattice_transform.proofs.Across.{polynomial-transposed}
use Rattle.lattice_transform.proofs.Polynomials.{IsPolynomial-inverse}
use Rattle.lattice_transform.proofs.SevenRows.{back-by-rows}
use Rattle.lattice_transform.proofs.arrays.ntt_inverse.Goals as goal

pub undo_layer-requires-clause-polynomial : goal.undo_layer-requires-clause-polynomial
undo_layer-requires-clause-polynomial c = subst (IsPolynomial 3329) (sym c.turn_over.ensures) (polynomial-transposed 3329 _ c.narrow_transformed.ensures.polynomial)

pub undo_layer-requires-4-clause-polynomial : goal.undo_layer-requires-4-clause-polynomial
undo_layer-requires-4-clause-polynomial c = subst (IsPolynomial 3329) (sym c.turn_over-2.ensures) (polynomial-transposed 3329 _ c.undo_layer-3.ensures.polynomial)

pub new-requires : goal.new-requires
new-requires c =
    (subst (IsPolynomial 3329) (sym (back-by-rows c.args.f.now _ _ _ _ _ _ _ _ _ _ (subst (IsPolynomial 3329) c.narrow_transformed.ensures.value c.narrow_transformed.ensures.polynomial)
    (c.turn_over.ensures ∙ ap transposed c.narrow_transformed.ensures.value) c.undo_layer.ensures.value c.undo_layer-2.ensures.value c.undo_layer-3.ensures.value
    c.turn_over-2.ensures c.undo_layer-4.ensures.value c.undo_layer-5.ensures.value c.undo_layer-6.ensures.value c.undo_layer-7.ensures.value (c.widened.ensures ∙ c.scale.ensures)))
    (IsPolynomial-inverse c.args.f.now)).each

pub returns : goal.returns
returns c =
    c.new.ensures
    ∙ back-by-rows c.args.f.now _ _ _ _ _ _ _ _ _ _ (subst (IsPolynomial 3329) c.narrow_transformed.ensures.value c.narrow_transformed.ensures.polynomial)
    (c.turn_over.ensures ∙ ap transposed c.narrow_transformed.ensures.value) c.undo_layer.ensures.value c.undo_layer-2.ensures.value c.undo_layer-3.ensures.value
    c.turn_over-2.ensures c.undo_layer-4.ensures.value c.undo_layer-5.ensures.value c.undo_layer-6.ensures.value c.undo_layer-7.ensures.value (c.widened.ensures ∙ c.scale.ensures)
