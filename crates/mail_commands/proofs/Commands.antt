-- Words, one by one.
use Rattle.std.proofs.Common.{◌≡◌, ℕ, ◌≤◌, ◌<◌, true, List, [], ◌∷◌, length, map, get_or, refl, sym, ap, ◌∙◌, arith}
use Rattle.std.specs.Str.{bytes_eq}
use Rattle.std.proofs.lemmas.Slice.Eq.{bytes_eq-Decides}

-- two words
pub two_words : {X : Type 0} (f : X → List ℕ) (xs : List X) (a b : X) → 2 ≤ length xs → length xs < 3 → a ≡ get_or xs 0 a → b ≡ get_or xs 1 b → map f xs ≡ f a ∷ f b ∷ []
two_words f [] a b le lt ea eb = absurd (omega (arith, le))
two_words f (x ∷ []) a b le lt ea eb = absurd (omega (arith, le))
two_words f (x ∷ y ∷ []) a b le lt ea eb = rw (ea, eb) refl
two_words f (x ∷ y ∷ z ∷ xs) a b le lt ea eb = absurd (omega (arith, lt))

-- four words
pub four_words : {X : Type 0} (f : X → List ℕ) (xs : List X) (a b c d : X) → 4 ≤ length xs → length xs < 5 → a ≡ get_or xs 0 a → b ≡ get_or xs 1 b → c ≡ get_or xs 2 c → d ≡ get_or xs 3 d
    → map f xs ≡ f a ∷ f b ∷ f c ∷ f d ∷ []
four_words f [] a b c d le lt ea eb ec ed = absurd (omega (arith, le))
four_words f (x ∷ []) a b c d le lt ea eb ec ed = absurd (omega (arith, le))
four_words f (x ∷ y ∷ []) a b c d le lt ea eb ec ed = absurd (omega (arith, le))
four_words f (x ∷ y ∷ z ∷ []) a b c d le lt ea eb ec ed = absurd (omega (arith, le))
four_words f (x ∷ y ∷ z ∷ w ∷ []) a b c d le lt ea eb ec ed = rw (ea, eb, ec, ed) refl
four_words f (x ∷ y ∷ z ∷ w ∷ v ∷ xs) a b c d le lt ea eb ec ed = absurd (omega (arith, lt))

-- five words
pub five_words : {X : Type 0} (f : X → List ℕ) (xs : List X) (a b c d e : X) → 5 ≤ length xs → length xs < 6 → a ≡ get_or xs 0 a → b ≡ get_or xs 1 b → c ≡ get_or xs 2 c → d ≡ get_or xs 3 d → e ≡ get_or xs 4 e
    → map f xs ≡ f a ∷ f b ∷ f c ∷ f d ∷ f e ∷ []
five_words f [] a b c d e le lt ea eb ec ed ee = absurd (omega (arith, le))
five_words f (x ∷ []) a b c d e le lt ea eb ec ed ee = absurd (omega (arith, le))
five_words f (x ∷ y ∷ []) a b c d e le lt ea eb ec ed ee = absurd (omega (arith, le))
five_words f (x ∷ y ∷ z ∷ []) a b c d e le lt ea eb ec ed ee = absurd (omega (arith, le))
five_words f (x ∷ y ∷ z ∷ w ∷ []) a b c d e le lt ea eb ec ed ee = absurd (omega (arith, le))
five_words f (x ∷ y ∷ z ∷ w ∷ v ∷ []) a b c d e le lt ea eb ec ed ee = rw (ea, eb, ec, ed, ee) refl
five_words f (x ∷ y ∷ z ∷ w ∷ v ∷ u ∷ xs) a b c d e le lt ea eb ec ed ee = absurd (omega (arith, lt))

-- the words, with a name in place of the first
pub named : (words : List (List ℕ)) (name other : List ℕ) (others : List (List ℕ)) → words ≡ name ∷ others → bytes_eq name other ≡ true → other ∷ others ≡ words
named words name other others is hit = sym (is ∙ ap (λ (w : List ℕ). w ∷ others) ((bytes_eq-Decides name other).0 hit))
