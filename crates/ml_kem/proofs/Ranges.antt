-- Sums and lists over a range of numbers.
use Rattle.std.proofs.Common.{◌≡◌, ℕ, zero, suc, ◌+◌, ◌<◌, All, map, sum_by, sym, ap, ◌∙◌}
use Rattle.std.specs.List.{range_with_len}
use Rattle.std.proofs.lemmas.List.Elements.{All-cons, All-nil}
use Rattle.std.proofs.lemmas.List.Sums.{sum_by_push}
use Rattle.kem_hash.proofs.Joined.{range_with_len-add}

-- one number more
pub sum_by-range_more : (f : ℕ → ℕ) (a n i : ℕ) → i ≡ a + n → sum_by f (range_with_len a (n + 1)) ≡ sum_by f (range_with_len a n) + f i
sum_by-range_more f a n i at =
    ap (sum_by f) (range_with_len-add a n 1) ∙ sum_by_push f (range_with_len a n) (a + n) ∙ ap (λ (j : ℕ). sum_by f (range_with_len a n) + f j) (sym at)

-- a list by its values is a list of values below a bound
pub All-values : (value : ℕ → ℕ) (bound a n : ℕ) → ((k : ℕ) → value k < bound) → All (λ x. x < bound) (map value (range_with_len a n))
All-values value bound a zero below = All-nil (λ x. x < bound)
All-values value bound a (suc n) below =
    All-cons (λ x. x < bound) (value a) (map value (range_with_len (a + 1) n)) (below a) (All-values value bound (a + 1) n below)
