-- Vectors that a loop makes item by item.
use Rattle.std.proofs.Common.{◌≡◌, ℕ, ◌+◌, ◌<◌, ◌≤◌, List, [], ◌∷◌, ◌++◌, length, get_or, take, map, refl, ◌∙◌, sym, ap, ap₂, arith}
use Rattle.std.specs.Simd.Lanes.{zip2}
use Rattle.std.proofs.lemmas.List.{take_more, take_all, length-map, get_or-map}
use Rattle.std.proofs.lemmas.Simd.{length-zip2, get_or-zip2}

-- one item more stands behind the first i
pub pushed : {Z : Type 0} (whole out : List Z) (i : ℕ) (z : Z) → i < length whole → z ≡ get_or whole i z
    → out ≡ take i whole → out ++ z ∷ [] ≡ take (i + 1) whole
pushed whole out i z within is made = ap₂ (λ a b. a ++ b ∷ []) made is ∙ sym (take_more whole i z within)

-- the item that two lists make at a place
pub zipped_at : {X Y Z : Type 0} (f : X → Y → Z) (xs : List X) (ys : List Y) (i : ℕ) (x : X) (y : Y) (z : Z)
    → i < length xs → length ys ≡ length xs → x ≡ get_or xs i x → y ≡ get_or ys i y → z ≡ f x y
    → (i < length (zip2 f xs ys)) × (z ≡ get_or (zip2 f xs ys) i z)
zipped_at f xs ys i x y z within long first second is =
    (rw (length-zip2 f xs ys (sym long)) within, is ∙ ap₂ f first second ∙ sym (get_or-zip2 f xs ys i x y z within (omega arith)))

-- the same where the whole is made of two lists item by item
pub zipped_more : {X Y Z : Type 0} (f : X → Y → Z) (xs : List X) (ys : List Y) (out : List Z) (i : ℕ) (x : X) (y : Y)
    → i < length xs → length ys ≡ length xs → x ≡ get_or xs i x → y ≡ get_or ys i y
    → out ≡ take i (zip2 f xs ys) → out ++ f x y ∷ [] ≡ take (i + 1) (zip2 f xs ys)
zipped_more f xs ys out i x y within long first second made =
    let at = zipped_at f xs ys i x y (f x y) within long first second refl in pushed (zip2 f xs ys) out i (f x y) at.0 at.1 made

-- the same where the whole is made of one list
pub mapped_more : {X Z : Type 0} (f : X → Z) (xs : List X) (out : List Z) (i : ℕ) (x : X)
    → i < length xs → x ≡ get_or xs i x → out ≡ take i (map f xs) → out ++ f x ∷ [] ≡ take (i + 1) (map f xs)
mapped_more f xs out i x within first made =
    pushed (map f xs) out i (f x) (rw (length-map xs f) within) (ap f first ∙ sym (get_or-map f xs i x (f x) within)) made

-- the whole of two lists
pub zipped_all : {X Y Z : Type 0} (f : X → Y → Z) (xs xs2 : List X) (ys ys2 : List Y) (out : List Z) (i : ℕ)
    → xs ≡ xs2 → ys ≡ ys2 → length ys2 ≡ length xs2 → length xs2 ≤ i → out ≡ take i (zip2 f xs ys) → out ≡ zip2 f xs2 ys2
zipped_all f xs xs2 ys ys2 out i same same2 long all made =
    made ∙ ap₂ (λ a b. take i (zip2 f a b)) same same2
    ∙ take_all i (zip2 f xs2 ys2) (rw (length-zip2 f xs2 ys2 (sym long)) all)
