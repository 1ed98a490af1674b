-- A list that a loop copies number by number.
use Rattle.std.proofs.Common.{◌≡◌, ◌≢◌, ℕ, ◌+◌, ◌<◌, ◌≤◌, List, length, get_or, refl, sym, ◌∙◌, arith, inl, inr}
use Rattle.std.proofs.Math.ListN.{set}
use Rattle.std.proofs.lemmas.Bool.{cases_eq}
use Rattle.std.proofs.lemmas.Grind.{get_or-set_at}
use Rattle.std.proofs.lemmas.List.{ext_get_or, get_or-set_other}

below_next : (k n : ℕ) → k < n + 1 → k ≢ n → k < n
below_next k n before other = omega arith

pub one-more : (n x : ℕ) (f out : List ℕ) → n < length out → x ≡ get_or f n 0 → ((k : ℕ) → k < n → get_or out k 0 ≡ get_or f k 0)
    → (k : ℕ) → k < n + 1 → get_or (set out n x) k 0 ≡ get_or f k 0
one-more n x f out inside is copied k before = elim (cases_eq k n) [
  | inl here ↦ get_or-set_at out n k x 0 here inside ∙ is ∙ rw here refl
  | inr other ↦ get_or-set_other out n k x 0 other ∙ copied k (below_next k n before other)
]

pub all-copied : (n : ℕ) (f out : List ℕ) → 256 ≤ n → length out ≡ 256 → length f ≡ 256 → ((k : ℕ) → k < n → get_or out k 0 ≡ get_or f k 0) → out ≡ f
all-copied n f out all long long2 copied = ext_get_or 0 out f (long ∙ sym long2) (λ k inside. copied k (omega (arith, inside, long)))
