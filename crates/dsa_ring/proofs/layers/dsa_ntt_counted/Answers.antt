use Rattle.std.proofs.Common.{◌∙◌, ap}
use Rattle.dsa_ring.specs.Layers.{layer}
use Rattle.dsa_ring.proofs.Eight.{layers-transform}
use Rattle.dsa_ring.proofs.layers.dsa_ntt_counted.Goals as goal

pub returns-clause-value : goal.returns-clause-value
returns-clause-value g c =
    c.layer_counted-8.ensures.value
    ∙ ap (layer 1) (c.layer_counted-7.ensures.value
    ∙ ap (layer 2) (c.layer_counted-6.ensures.value
    ∙ ap (layer 4) (c.layer_counted-5.ensures.value
    ∙ ap (layer 8) (c.layer_counted-4.ensures.value
    ∙ ap (layer 16) (c.layer_counted-3.ensures.value
    ∙ ap (layer 32) (c.layer_counted-2.ensures.value
    ∙ ap (layer 64) c.layer_counted.ensures.value))))))
    ∙ layers-transform (g.B.Butterflies.values c.args.values.now) c.layer_counted.ensures.before
