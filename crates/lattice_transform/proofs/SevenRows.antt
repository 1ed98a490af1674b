-- The seven layers over rows, and those back.
use Rattle.std.proofs.Common.{◌≡◌, List, ℕ, length, ap, ◌∙◌}
use Rattle.module_lattice.specs.Ring.{IsPolynomial, multiple}
use Rattle.lattice_transform.specs.Layers.{inverse_layer, layer}
use Rattle.lattice_transform.specs.private.Rows.{inverse_row_butterflies, row_butterflies, transposed}
use Rattle.lattice_transform.specs.Transform.{inverse_transform, transform}
use Rattle.lattice_transform.proofs.RowLayers.{four-layers, four-layers-back, three-layers, three-layers-back}
use Rattle.lattice_transform.proofs.Seven.{layers-transform}
use Rattle.lattice_transform.proofs.SevenBack.{inverse-layers}

pub by-rows : (f r0 r1 r2 r3 r4 c0 c1 c2 c3 out : List ℕ) → IsPolynomial 3329 f → length r4 ≡ 256
    → r0 ≡ f → r1 ≡ row_butterflies 8 0 128 r0 → r2 ≡ row_butterflies 4 0 128 r1 → r3 ≡ row_butterflies 2 0 128 r2 → r4 ≡ row_butterflies 1 0 128 r3
    → c0 ≡ transposed r4 → c1 ≡ row_butterflies 8 1 128 c0 → c2 ≡ row_butterflies 4 1 128 c1 → c3 ≡ row_butterflies 2 1 128 c2 → out ≡ transposed c3
    → out ≡ transform f
by-rows f r0 r1 r2 r3 r4 c0 c1 c2 c3 out is long e0 e1 e2 e3 e4 turned l1 l2 l3 back =
    back
    ∙ ap transposed (l3 ∙ ap (row_butterflies 2 1 128) (l2 ∙ ap (row_butterflies 4 1 128) (l1 ∙ ap (row_butterflies 8 1 128) turned)))
    ∙ three-layers r4 long
    ∙ ap (λ v. layer 2 (layer 4 (layer 8 v)))
    (e4 ∙ ap (row_butterflies 1 0 128) (e3 ∙ ap (row_butterflies 2 0 128) (e2 ∙ ap (row_butterflies 4 0 128) (e1 ∙ ap (row_butterflies 8 0 128) e0)))
    ∙ four-layers f)
    ∙ layers-transform f is

pub back-by-rows : (h c0 c1 c2 c3 r0 r1 r2 r3 r4 out : List ℕ) → IsPolynomial 3329 h → c0 ≡ transposed h
    → c1 ≡ inverse_row_butterflies 2 1 128 c0 → c2 ≡ inverse_row_butterflies 4 1 128 c1 → c3 ≡ inverse_row_butterflies 8 1 128 c2 → r0 ≡ transposed c3
    → r1 ≡ inverse_row_butterflies 1 0 128 r0 → r2 ≡ inverse_row_butterflies 2 0 128 r1 → r3 ≡ inverse_row_butterflies 4 0 128 r2 → r4 ≡ inverse_row_butterflies 8 0 128 r3
    → out ≡ multiple 3329 3303 r4 → out ≡ inverse_transform h
back-by-rows h c0 c1 c2 c3 r0 r1 r2 r3 r4 out is turned l1 l2 l3 back e1 e2 e3 e4 factor =
    factor
    ∙ ap (multiple 3329 3303) (e4 ∙ ap (inverse_row_butterflies 8 0 128) (e3 ∙ ap (inverse_row_butterflies 4 0 128)
    (e2 ∙ ap (inverse_row_butterflies 2 0 128) (e1 ∙ ap (inverse_row_butterflies 1 0 128)
    (back ∙ ap transposed (l3 ∙ ap (inverse_row_butterflies 8 1 128) (l2 ∙ ap (inverse_row_butterflies 4 1 128) (l1 ∙ ap (inverse_row_butterflies 2 1 128) turned)))
    ∙ three-layers-back h is.size))))
    ∙ four-layers-back (inverse_layer 8 (inverse_layer 4 (inverse_layer 2 h))))
    ∙ inverse-layers h is
