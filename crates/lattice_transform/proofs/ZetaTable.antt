-- The tables of the zetas, and of their quotients.
use Rattle.std.proofs.Common.{◌≡◌, ℕ, ◌*◌, ◌/◌, ◌<◌, List, map, slice_index, refl, sym, ap, ◌∙◌, arith, ◌^◌}
use Rattle.std.specs.List.{range_with_len}
use Rattle.std.proofs.Math.Nat.{mod-lt}
use Rattle.std.proofs.lemmas.List.FromFn.{get_or-map-range_with_len}
use Rattle.module_lattice.specs.Pairs.{bit_rev7}
use Rattle.lattice_transform.specs.declared.zetas.TheConstants.{ROW_QUOTIENTS, ROW_ZETAS, ZETAS}
use Rattle.lattice_transform.specs.Layers.{zeta}
use Rattle.lattice_transform.specs.private.Rows.{zeta_number}

-- the table is the rule, place by place
ZETAS_is : map zeta (range_with_len 0 128) ≡ ZETAS
unfolding zeta
ZETAS_is = refl

pub zeta-at : (k : ℕ) → k < 128 → slice_index ZETAS k ≡ zeta k
zeta-at k inside = ap (λ (t : List ℕ). slice_index t k) (sym ZETAS_is) ∙ get_or-map-range_with_len zeta 0 128 k k 0 inside (omega arith)

pub zeta-below : (k : ℕ) → k < 128 → slice_index ZETAS k < 3329
unfolding zeta
zeta-below k inside = rw (zeta-at k inside) (mod-lt (17 ^ bit_rev7 k) (omega arith))

-- the table for rows, and its quotients, are their rules, place by place
ROW_ZETAS_is : map (λ p. zeta (zeta_number p)) (range_with_len 0 128) ≡ ROW_ZETAS
unfolding zeta
ROW_ZETAS_is = refl

pub row-zeta-at : (p : ℕ) → p < 128 → slice_index ROW_ZETAS p ≡ zeta (zeta_number p)
row-zeta-at p inside =
    ap (λ (t : List ℕ). slice_index t p) (sym ROW_ZETAS_is) ∙ get_or-map-range_with_len (λ p. zeta (zeta_number p)) 0 128 p p 0 inside (omega arith)

pub row-zeta-below : (p : ℕ) → p < 128 → slice_index ROW_ZETAS p < 3329
unfolding zeta
row-zeta-below p inside = rw (row-zeta-at p inside) (mod-lt (17 ^ bit_rev7 (zeta_number p)) (omega arith))

ROW_QUOTIENTS_is : map (λ p. zeta (zeta_number p) * 2 ^ 16 / 3329) (range_with_len 0 128) ≡ ROW_QUOTIENTS
unfolding zeta
ROW_QUOTIENTS_is = refl

pub row-quotient-at : (p : ℕ) → p < 128 → slice_index ROW_QUOTIENTS p ≡ zeta (zeta_number p) * 2 ^ 16 / 3329
row-quotient-at p inside =
    ap (λ (t : List ℕ). slice_index t p) (sym ROW_QUOTIENTS_is)
    ∙ get_or-map-range_with_len (λ p. zeta (zeta_number p) * 2 ^ 16 / 3329) 0 128 p p 0 inside (omega arith)
