-- Eight layers back, with the factor 8347681, are the inverse of the transform.
use Rattle.std.proofs.Common.{◌≡◌, ℕ, ◌+◌, ◌-◌, ◌*◌, ◌/◌, ◌%◌, ◌<◌, ◌≤◌, List, length, get_or, map, refl, subst, sym, ap, ◌∙◌, arith}
use Rattle.std.specs.List.{range_with_len}
use Rattle.std.proofs.Math.Nat.{mod-eq_of_lt, mul_assoc}
use Rattle.std.proofs.lemmas.List.{ext_get_or, get_or-map, length-map}
use Rattle.std.proofs.lemmas.Nat.{mul-mod_second}
use Rattle.module_lattice.specs.Ring.{IsPolynomial, multiple, times}
use Rattle.lattice_transform.proofs.Back.{IsMultiple, Opposites, itself, layer-undone, opposites-from}
use Rattle.lattice_transform.proofs.Sums.{times-mod}
use Rattle.dsa_ring.specs.Layers.{inverse_layer, inverse_layers, layer, layers, zeta}
use Rattle.dsa_ring.specs.Transform.{inverse_transform}
use Rattle.dsa_ring.proofs.Eight.{layers-transform}
use Rattle.dsa_ring.proofs.Inverse.{IsPolynomial-inverse, transform-inverse}
use Rattle.dsa_ring.proofs.Stages.{back-stage, layer-stage, length-layer}

-- ---- the zetas of the way back, by computation

opposites_128 : map (λ g. zeta (2 * (128 / 128) - 1 - g) * zeta (128 / 128 + g) % 8380417) (range_with_len 0 1) ≡ map (λ g. 8380416) (range_with_len 0 1)
unfolding zeta
opposites_128 = refl

opposites_64 : map (λ g. zeta (2 * (128 / 64) - 1 - g) * zeta (128 / 64 + g) % 8380417) (range_with_len 0 2) ≡ map (λ g. 8380416) (range_with_len 0 2)
unfolding zeta
opposites_64 = refl

opposites_32 : map (λ g. zeta (2 * (128 / 32) - 1 - g) * zeta (128 / 32 + g) % 8380417) (range_with_len 0 4) ≡ map (λ g. 8380416) (range_with_len 0 4)
unfolding zeta
opposites_32 = refl

opposites_16 : map (λ g. zeta (2 * (128 / 16) - 1 - g) * zeta (128 / 16 + g) % 8380417) (range_with_len 0 8) ≡ map (λ g. 8380416) (range_with_len 0 8)
unfolding zeta
opposites_16 = refl

opposites_8 : map (λ g. zeta (2 * (128 / 8) - 1 - g) * zeta (128 / 8 + g) % 8380417) (range_with_len 0 16) ≡ map (λ g. 8380416) (range_with_len 0 16)
unfolding zeta
opposites_8 = refl

opposites_4 : map (λ g. zeta (2 * (128 / 4) - 1 - g) * zeta (128 / 4 + g) % 8380417) (range_with_len 0 32) ≡ map (λ g. 8380416) (range_with_len 0 32)
unfolding zeta
opposites_4 = refl

opposites_2 : map (λ g. zeta (2 * (128 / 2) - 1 - g) * zeta (128 / 2 + g) % 8380417) (range_with_len 0 64) ≡ map (λ g. 8380416) (range_with_len 0 64)
unfolding zeta
opposites_2 = refl

opposites_1 : map (λ g. zeta (2 * (128 / 1) - 1 - g) * zeta (128 / 1 + g) % 8380417) (range_with_len 0 128) ≡ map (λ g. 8380416) (range_with_len 0 128)
unfolding zeta
opposites_1 = refl

-- ---- all layers

factored : (x : ℕ) → x < 8380417 → 8347681 * (256 * x % 8380417) % 8380417 ≡ x
factored x small =
    let alone : 1 * x ≡ x = omega arith in
    mul-mod_second 8347681 (256 * x) 8380417 ∙ ap (λ y. y % 8380417) (sym (mul_assoc 8347681 256 x))
    ∙ times-mod 8380417 (8347681 * 256) 1 x x refl refl ∙ ap (λ y. y % 8380417) alone ∙ mod-eq_of_lt small

undone : (m t c : ℕ) (u w : List ℕ) → 1 ≤ m → m * t ≡ 128 → Opposites 8380417 zeta m t → length u ≡ 256 → IsMultiple 8380417 c (layer m u) w
    → IsMultiple 8380417 (2 * c) u (inverse_layer m w)
undone m t c u w positive whole opposite long is =
    layer-undone 8380417 zeta (omega arith) m t c u (layer m u) w (inverse_layer m w) positive whole opposite (layer-stage m t u positive whole long) is
    (back-stage m t w positive whole is.size)

eight : (u : List ℕ) → length u ≡ 256 → ((n : ℕ) → n < 256 → get_or (layers u) n 0 < 8380417)
    → IsMultiple 8380417 256 u (inverse_layer 128 (inverse_layer 64 (inverse_layer 32 (inverse_layer 16 (inverse_layer 8 (inverse_layer 4 (inverse_layer 2 (inverse_layer 1 (layers u)))))))))
eight u long below =
    let l1 : length (layer 128 u) ≡ 256 = length-layer 128 1 u (omega arith) refl long in
    let l2 : length (layer 64 (layer 128 u)) ≡ 256 = length-layer 64 2 (layer 128 u) (omega arith) refl l1 in
    let l3 : length (layer 32 (layer 64 (layer 128 u))) ≡ 256 = length-layer 32 4 (layer 64 (layer 128 u)) (omega arith) refl l2 in
    let l4 : length (layer 16 (layer 32 (layer 64 (layer 128 u)))) ≡ 256 = length-layer 16 8 (layer 32 (layer 64 (layer 128 u))) (omega arith) refl l3 in
    let l5 : length (layer 8 (layer 16 (layer 32 (layer 64 (layer 128 u))))) ≡ 256 = length-layer 8 16 (layer 16 (layer 32 (layer 64 (layer 128 u)))) (omega arith) refl l4 in
    let l6 : length (layer 4 (layer 8 (layer 16 (layer 32 (layer 64 (layer 128 u)))))) ≡ 256 = length-layer 4 32 (layer 8 (layer 16 (layer 32 (layer 64 (layer 128 u))))) (omega arith) refl l5 in
    let l7 : length (layer 2 (layer 4 (layer 8 (layer 16 (layer 32 (layer 64 (layer 128 u))))))) ≡ 256 = length-layer 2 64 (layer 4 (layer 8 (layer 16 (layer 32 (layer 64 (layer 128 u)))))) (omega arith) refl l6 in
    let w0 : IsMultiple 8380417 1 (layers u) (layers u) = itself 8380417 (layers u) (length-layer 1 128 (layer 2 (layer 4 (layer 8 (layer 16 (layer 32 (layer 64 (layer 128 u))))))) (omega arith) refl l7) below in
    let w1 : IsMultiple 8380417 2 (layer 2 (layer 4 (layer 8 (layer 16 (layer 32 (layer 64 (layer 128 u))))))) (inverse_layer 1 (layers u)) =
    undone 1 128 1 (layer 2 (layer 4 (layer 8 (layer 16 (layer 32 (layer 64 (layer 128 u))))))) (layers u) (omega arith) refl (opposites-from 8380417 zeta 1 128 opposites_1) l7 w0 in
    let w2 : IsMultiple 8380417 4 (layer 4 (layer 8 (layer 16 (layer 32 (layer 64 (layer 128 u)))))) (inverse_layer 2 (inverse_layer 1 (layers u))) =
    undone 2 64 2 (layer 4 (layer 8 (layer 16 (layer 32 (layer 64 (layer 128 u)))))) (inverse_layer 1 (layers u)) (omega arith) refl (opposites-from 8380417 zeta 2 64 opposites_2) l6 w1 in
    let w3 : IsMultiple 8380417 8 (layer 8 (layer 16 (layer 32 (layer 64 (layer 128 u))))) (inverse_layer 4 (inverse_layer 2 (inverse_layer 1 (layers u)))) =
    undone 4 32 4 (layer 8 (layer 16 (layer 32 (layer 64 (layer 128 u))))) (inverse_layer 2 (inverse_layer 1 (layers u))) (omega arith) refl (opposites-from 8380417 zeta 4 32 opposites_4) l5 w2 in
    let w4 : IsMultiple 8380417 16 (layer 16 (layer 32 (layer 64 (layer 128 u)))) (inverse_layer 8 (inverse_layer 4 (inverse_layer 2 (inverse_layer 1 (layers u))))) =
    undone 8 16 8 (layer 16 (layer 32 (layer 64 (layer 128 u)))) (inverse_layer 4 (inverse_layer 2 (inverse_layer 1 (layers u)))) (omega arith) refl (opposites-from 8380417 zeta 8 16 opposites_8) l4 w3 in
    let w5 : IsMultiple 8380417 32 (layer 32 (layer 64 (layer 128 u))) (inverse_layer 16 (inverse_layer 8 (inverse_layer 4 (inverse_layer 2 (inverse_layer 1 (layers u)))))) =
    undone 16 8 16 (layer 32 (layer 64 (layer 128 u))) (inverse_layer 8 (inverse_layer 4 (inverse_layer 2 (inverse_layer 1 (layers u))))) (omega arith) refl (opposites-from 8380417 zeta 16 8 opposites_16) l3 w4 in
    let w6 : IsMultiple 8380417 64 (layer 64 (layer 128 u)) (inverse_layer 32 (inverse_layer 16 (inverse_layer 8 (inverse_layer 4 (inverse_layer 2 (inverse_layer 1 (layers u))))))) =
    undone 32 4 32 (layer 64 (layer 128 u)) (inverse_layer 16 (inverse_layer 8 (inverse_layer 4 (inverse_layer 2 (inverse_layer 1 (layers u)))))) (omega arith) refl (opposites-from 8380417 zeta 32 4 opposites_32) l2 w5 in
    let w7 : IsMultiple 8380417 128 (layer 128 u) (inverse_layer 64 (inverse_layer 32 (inverse_layer 16 (inverse_layer 8 (inverse_layer 4 (inverse_layer 2 (inverse_layer 1 (layers u)))))))) =
    undone 64 2 64 (layer 128 u) (inverse_layer 32 (inverse_layer 16 (inverse_layer 8 (inverse_layer 4 (inverse_layer 2 (inverse_layer 1 (layers u))))))) (omega arith) refl (opposites-from 8380417 zeta 64 2 opposites_64) l1 w6 in
    undone 128 1 128 u (inverse_layer 64 (inverse_layer 32 (inverse_layer 16 (inverse_layer 8 (inverse_layer 4 (inverse_layer 2 (inverse_layer 1 (layers u)))))))) (omega arith) refl (opposites-from 8380417 zeta 128 1 opposites_128) long w7

pub inverse-layers : (h : List ℕ) → IsPolynomial 8380417 h → inverse_layers h ≡ inverse_transform h
inverse-layers h is =
    let u : List ℕ = inverse_transform h in
    let back : List ℕ → List ℕ = λ h. inverse_layer 128 (inverse_layer 64 (inverse_layer 32 (inverse_layer 16 (inverse_layer 8 (inverse_layer 4 (inverse_layer 2 (inverse_layer 1 h))))))) in
    let polynomial : IsPolynomial 8380417 u = IsPolynomial-inverse h in
    let whole : layers u ≡ h = layers-transform u polynomial ∙ transform-inverse h is in
    let below : (n : ℕ) → n < 256 → get_or (layers u) n 0 < 8380417 = λ n inside.
    subst (λ x. x < 8380417) (ap (λ h. get_or h n 0) (sym whole)) (is.each n 0 (omega (arith, inside, is.size))) in
    let all : IsMultiple 8380417 256 u (back (layers u)) = eight u polynomial.size below in
    let done : multiple 8380417 8347681 (back (layers u)) ≡ u =
    ext_get_or 0 (multiple 8380417 8347681 (back (layers u))) u
    (length-map (back (layers u)) (times 8380417 8347681) ∙ all.size ∙ sym polynomial.size)
    (λ n inside.
    let low : n < 256 = omega (arith, inside, length-map (back (layers u)) (times 8380417 8347681), all.size) in
    get_or-map (times 8380417 8347681) (back (layers u)) n 0 0 (omega (arith, low, all.size))
    ∙ ap (λ x. 8347681 * x % 8380417) (all.at n low)
    ∙ factored (get_or u n 0) (polynomial.each n 0 (omega (arith, low, polynomial.size)))) in
    ap (λ h. multiple 8380417 8347681 (back h)) (sym whole) ∙ done
