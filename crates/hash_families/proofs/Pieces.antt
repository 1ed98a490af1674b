-- Pieces that are all the same.
use Rattle.std.proofs.Common.{◌≡◌, ℕ, List, ◌++◌, refl, ap, zero, suc, ◌+◌}
use Rattle.std.specs.List.{flat_map, range_with_len}

-- where all pieces are the same, only how many there are counts
pub same-joined : (bytes : List ℕ) (a b n : ℕ) → flat_map (λ i. bytes) (range_with_len a n) ≡ flat_map (λ i. bytes) (range_with_len b n)
same-joined bytes a b zero = refl
same-joined bytes a b (suc n) = ap (λ (t : List ℕ). bytes ++ t) (same-joined bytes (a + 1) (b + 1) n)
