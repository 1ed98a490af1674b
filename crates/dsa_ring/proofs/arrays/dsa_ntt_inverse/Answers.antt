use Rattle.std.proofs.Common.{◌∙◌, ap, subst}
use Rattle.module_lattice.specs.Ring.{IsPolynomial, multiple}
use Rattle.dsa_ring.specs.Layers.{inverse_layer}
use Rattle.dsa_ring.proofs.EightBack.{inverse-layers}
use Rattle.dsa_ring.proofs.arrays.dsa_ntt_inverse.Goals as goal

pub returns : goal.returns
returns c =
    c.new.ensures
    ∙ c.scaled.ensures.value
    ∙ ap (multiple 8380417 8347681) (c.undo_layer-8.ensures.value
    ∙ ap (inverse_layer 128) (c.undo_layer-7.ensures.value
    ∙ ap (inverse_layer 64) (c.undo_layer-6.ensures.value
    ∙ ap (inverse_layer 32) (c.undo_layer-5.ensures.value
    ∙ ap (inverse_layer 16) (c.undo_layer-4.ensures.value
    ∙ ap (inverse_layer 8) (c.undo_layer-3.ensures.value
    ∙ ap (inverse_layer 4) (c.undo_layer-2.ensures.value
    ∙ ap (inverse_layer 2) (c.undo_layer.ensures.value
    ∙ ap (inverse_layer 1) c.numbers-values.ensures.value))))))))
    ∙ inverse-layers c.args.f.now (subst (IsPolynomial 8380417) c.numbers-values.ensures.value c.numbers-values.ensures.polynomial)
