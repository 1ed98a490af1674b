-- Equalities that agree: a proof that an `impl` cites, and no definition.
use Rattle.std.specs.Prelude.{◌≡◌, Bool, List}
use Rattle.std.specs.Cmp.Lexicographic.{pointwise}

-- tests that agree on elements agree on lists
pub pointwise-agrees : {T : Type 0} (p r : T → T → Bool) → ((x y : T) → p x y ≡ r x y)
    → (xs ys : List T) → pointwise p xs ys ≡ pointwise r xs ys
pointwise-agrees p r agree xs ys = λ i. pointwise (λ x y. agree x y i) xs ys
