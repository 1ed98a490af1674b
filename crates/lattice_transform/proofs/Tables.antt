-- Two rules whose lists are the same.
use Rattle.std.proofs.Common.{◌≡◌, ℕ, ◌+◌, ◌-◌, ◌<◌, ◌≤◌, List, map, get_or, sym, ap, ◌∙◌, arith}
use Rattle.std.specs.List.{range_with_len}
use Rattle.std.proofs.lemmas.List.FromFn.{get_or-map-range_with_len}

-- a rule that is a list, place by place
pub from_table : (f g : ℕ → ℕ) (a n k : ℕ) → map f (range_with_len a n) ≡ map g (range_with_len a n) → a ≤ k → k < a + n → f k ≡ g k
from_table f g a n k same low high =
    sym (get_or-map-range_with_len f a n (k - a) k 0 (omega arith) (omega arith))
    ∙ ap (λ (xs : List ℕ). get_or xs (k - a) 0) same
    ∙ get_or-map-range_with_len g a n (k - a) k 0 (omega arith) (omega arith)
