-- What is read of an output first.
use Rattle.std.proofs.Common.{◌≡◌, ℕ, ◌+◌, List, [], ◌∷◌, ◌++◌, length, refl, sym, ap, ◌∙◌, arith}

nothing : (xs : List ℕ) → length xs ≡ 0 → xs ≡ []
nothing [] none = refl
nothing (x ∷ xs) none = absurd (omega (arith, none))

-- the bytes that follow none are all that there are
pub first_read : (output : ℕ → List ℕ) → ((d : ℕ) → length (output d) ≡ d) → (n : ℕ) (read : List ℕ)
    → output (0 + n) ≡ output 0 ++ read → read ≡ output n
first_read output size n read next =
    let same : 0 + n ≡ n = omega arith in
    ap (λ (t : List ℕ). t ++ read) (sym (nothing (output 0) (size 0))) ∙ sym next ∙ ap output same
