use Rattle.std.proofs.Common.{◌∙◌, ap, subst}
use Rattle.module_lattice.specs.Ring.{IsPolynomial}
use Rattle.dsa_ring.specs.Layers.{layer}
use Rattle.dsa_ring.proofs.Eight.{layers-transform}
use Rattle.dsa_ring.proofs.arrays.dsa_ntt.Goals as goal

pub returns : goal.returns
returns c =
    c.new.ensures
    ∙ c.make_layer-8.ensures.value
    ∙ ap (layer 1) (c.make_layer-7.ensures.value
    ∙ ap (layer 2) (c.make_layer-6.ensures.value
    ∙ ap (layer 4) (c.make_layer-5.ensures.value
    ∙ ap (layer 8) (c.make_layer-4.ensures.value
    ∙ ap (layer 16) (c.make_layer-3.ensures.value
    ∙ ap (layer 32) (c.make_layer-2.ensures.value
    ∙ ap (layer 64) (c.make_layer.ensures.value
    ∙ ap (layer 128) c.into_array-values.ensures.value)))))))
    ∙ layers-transform c.args.f.now (subst (IsPolynomial 8380417) c.into_array-values.ensures.value c.into_array-values.ensures.polynomial)
