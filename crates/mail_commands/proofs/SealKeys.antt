-- Whether bytes are an encapsulation key.
use Rattle.std.proofs.Common.{◌≡◌, ℕ, zero, suc, ◌<◌, List, [], ◌∷◌, length, ◌⊎◌, inl, inr, arith}
use Rattle.std.specs.Prelude.{All}
use Rattle.std.specs.List.{AllByRecursion}
use Rattle.std.proofs.lemmas.Bool.{cases_eq, cases_lt}
use Rattle.std.proofs.lemmas.List.Elements.{recursion_from_All, All-from_recursion}
use Rattle.ml_kem.specs.Keys.{IsEncapsulationKey, IsReduced}
use Rattle.ml_kem.specs.Parameters.{Parameters, q}

-- it holds or it doesn't
abbrev pub Decides : Type 0 → Type 0
Decides A = A ⊎ (A → ⊥)

each_below : (n : ℕ) (xs : List ℕ) → Decides (AllByRecursion (λ x. x < n) xs)
each_below n [] = inl tt
each_below n (x ∷ xs) = elim (cases_lt x n) [
  | inr not ↦ inr (λ all. let lt = all.0 in omega (arith, not, lt))
  | inl lt ↦ elim (each_below n xs) [
    | inl others ↦ inl (lt, others)
    | inr none ↦ inr (λ all. none all.1)
  ]
]

all_below : (n : ℕ) (xs : List ℕ) → Decides (All (λ x. x < n) xs)
all_below n xs = elim (each_below n xs) [
  | inl each ↦ inl (All-from_recursion (λ x. x < n) xs each)
  | inr none ↦ inr (λ all. none (recursion_from_All (λ x. x < n) xs all))
]

-- of all numbers below another
module _ (P : ℕ → Type 0) (decide : (i : ℕ) → Decides (P i)) where
  every : (k : ℕ) → Decides ((i : ℕ) → i < k → P i)
  every zero = inl (λ i lt. absurd (omega (arith, lt)))
  every (suc k) = elim (decide k) [
    | inr none ↦ inr (λ all. none (all k (omega arith)))
    | inl last ↦ elim (every k) [
      | inr none ↦ inr (λ all. none (λ i lt. all i (omega (arith, lt))))
      | inl before ↦ inl (λ i lt. elim (cases_lt i k) [
        | inl within ↦ before i within
        | inr behind ↦ (let same : k ≡ i = omega (arith, lt, behind) in subst_to i same last)
      ])
    ]
  ]
    where
      subst_to : (i : ℕ) → k ≡ i → P k → P i
      subst_to i same p = rw (sym_of i same) p
        where
          sym_of : (i : ℕ) → k ≡ i → i ≡ k
          sym_of i e = omega (arith, e)

is_reduced : (k : ℕ) (bytes : List ℕ) → Decides (IsReduced k bytes)
is_reduced k bytes = every _ (λ i. all_below q _) k

pub is_key : (set : Parameters) (bytes : List ℕ) → Decides (IsEncapsulationKey set bytes)
is_key set bytes = elim (cases_eq (length bytes) set.ek_size) [
  | inr other ↦ inr (λ is. other is.size)
  | inl size ↦ elim (is_reduced set.k bytes) [
    | inl reduced ↦ inl (record { size = size; reduced = reduced })
    | inr none ↦ inr (λ is. none is.reduced)
  ]
]
