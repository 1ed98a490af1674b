-- The table of the zetas.
use Rattle.std.proofs.Common.{◌≡◌, ℕ, ◌<◌, List, map, slice_index, refl, sym, ap, ◌∙◌, arith, ◌^◌}
use Rattle.std.specs.List.{range_with_len}
use Rattle.std.proofs.Math.Nat.{mod-lt}
use Rattle.std.proofs.lemmas.List.FromFn.{get_or-map-range_with_len}
use Rattle.dsa_ring.specs.Transform.{bit_rev8}
use Rattle.dsa_ring.specs.declared.zetas.TheConstants.{ZETAS}
use Rattle.dsa_ring.specs.Layers.{zeta}

-- the table is the rule, place by place
ZETAS_is : map zeta (range_with_len 0 256) ≡ ZETAS
unfolding zeta
ZETAS_is = refl

pub zeta-at : (k : ℕ) → k < 256 → slice_index ZETAS k ≡ zeta k
zeta-at k inside = ap (λ (t : List ℕ). slice_index t k) (sym ZETAS_is) ∙ get_or-map-range_with_len zeta 0 256 k k 0 inside (omega arith)

pub zeta-below : (k : ℕ) → k < 256 → slice_index ZETAS k < 8380417
unfolding zeta
zeta-below k inside = rw (zeta-at k inside) (mod-lt (1753 ^ bit_rev8 k) (omega arith))
