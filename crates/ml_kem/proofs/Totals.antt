-- Sums of products of pairs, item by item.
use Rattle.std.proofs.Common.{◌≡◌, ℕ, ◌+◌, ◌%◌, ◌<◌, ◌≤◌, List, [], ◌∷◌, ◌++◌, Some, length, get_or, take, slice_get, slice_index, sum_by, sym, ap, ap₂, ◌∙◌, arith}
use Rattle.std.specs.List.{range_with_len}
use Rattle.std.specs.Simd.Lanes.{zip2}
use Rattle.std.proofs.Math.Nat.{mod-add-mod}
use Rattle.std.proofs.lemmas.List.{get_or-map, take_all, take_more}
use Rattle.std.proofs.lemmas.List.Concat.{length-flat_map}
use Rattle.std.proofs.lemmas.List.FromFn.{fill_by_all, get_or-map-range_with_len, length-map-range_with_len}
use Rattle.std.proofs.lemmas.List.Sums.{sum_by_push}
use Rattle.std.proofs.lemmas.Option.{get_or_from_slice_get}
use Rattle.std.proofs.lemmas.Simd.{get_or-zip2, length-zip2}
use Rattle.module_lattice.specs.Pairs.{pair_product, pair_products}
use Rattle.module_lattice.specs.Ring.{plus, sum}
use Rattle.module_lattice.specs.Vectors.{dot_product, total}
use Rattle.ml_kem.specs.Matrix.{column}

-- how many numbers the products of pairs have
length-products : (f g : List ℕ) → length (pair_products f g) ≡ 256
unfolding pair_products
length-products f g = length-flat_map (pair_product f g) (range_with_len 0 128)

-- one polynomial more
total-push : (fs : List (List ℕ)) (f : List ℕ) → length f ≡ 256 → sum 3329 (total 3329 fs) f ≡ total 3329 (fs ++ f ∷ [])
total-push fs f long =
    let value : ℕ → ℕ = λ k. sum_by (λ g. slice_index g k) fs % 3329 in
    let size : length (total 3329 fs) ≡ 256 = length-map-range_with_len value 0 256 in
    fill_by_all (λ k. sum_by (λ g. slice_index g k) (fs ++ f ∷ []) % 3329) (sum 3329 (total 3329 fs) f) 256 0
    (length-zip2 (plus 3329) (total 3329 fs) f (size ∙ sym long) ∙ size)
    (λ k within.
    get_or-zip2 (plus 3329) (total 3329 fs) f k 0 0 0 (omega arith) (omega arith)
    ∙ ap (λ (x : ℕ). (x + get_or f k 0) % 3329) (get_or-map-range_with_len value 0 256 k k 0 within (omega arith))
    ∙ mod-add-mod (sum_by (λ g. slice_index g k) fs) 3329 (get_or f k 0)
    ∙ ap (λ (n : ℕ). n % 3329) (sym (sum_by_push (λ g. slice_index g k) fs f)))

-- one item more of two lists
take-zip2 : {X Y Z : Type 0} (f : X → Y → Z) (xs : List X) (ys : List Y) (i : ℕ) (x : X) (y : Y)
    → i < length xs → length ys ≡ length xs → get_or xs i x ≡ x → get_or ys i y ≡ y
    → take (i + 1) (zip2 f xs ys) ≡ take i (zip2 f xs ys) ++ f x y ∷ []
take-zip2 f xs ys i x y within long at_x at_y =
    let size = length-zip2 f xs ys (sym long) in
    take_more (zip2 f xs ys) i (f x y) (omega arith)
    ∙ ap (λ z. take i (zip2 f xs ys) ++ z ∷ []) (get_or-zip2 f xs ys i x y (f x y) within (omega arith) ∙ ap₂ f at_x at_y)

-- an item of a column
column-at : (a : List (List (List ℕ))) (i j : ℕ) (row : List (List ℕ)) (f : List ℕ) → j < length a → slice_get a j ≡ Some row → slice_get row i ≡ Some f
    → get_or (column a i) j f ≡ f
column-at a i j row f within at_row at =
    get_or-map (λ (r : List (List ℕ)). get_or r i []) a j [] f within
    ∙ ap (λ (r : List (List ℕ)). get_or r i []) (get_or_from_slice_get a j row [] at_row) ∙ get_or_from_slice_get row i f [] at

-- one product more of a column
pub column-more : (a : List (List (List ℕ))) (v : List (List ℕ)) (i j : ℕ) (row : List (List ℕ)) (f g before after : List ℕ) → j < length a → length (column a i) ≡ length a
    → length v ≡ length a → slice_get a j ≡ Some row → slice_get row i ≡ Some f → slice_get v j ≡ Some g
    → before ≡ total 3329 (take j (zip2 pair_products (column a i) v)) → after ≡ sum 3329 before (pair_products f g)
    → after ≡ total 3329 (take (j + 1) (zip2 pair_products (column a i) v))
column-more a v i j row f g before after within size long at_row at_f at_g so_far step =
    let u : List (List ℕ) = column a i in
    let done : List (List ℕ) = take j (zip2 pair_products u v) in
    step ∙ ap (λ b. sum 3329 b (pair_products f g)) so_far ∙ total-push done (pair_products f g) (length-products f g)
    ∙ ap (total 3329) (sym (take-zip2 pair_products u v j f g (omega arith) (omega arith) (column-at a i j row f within at_row at_f) (get_or_from_slice_get v j g g at_g)))

-- all products of a column
pub column-all : (a : List (List (List ℕ))) (v : List (List ℕ)) (i j : ℕ) (out : List ℕ) → length (column a i) ≡ length a → length v ≡ length a → length a ≤ j
    → out ≡ total 3329 (take j (zip2 pair_products (column a i) v)) → out ≡ dot_product 3329 pair_products (column a i) v
column-all a v i j out size long all made =
    let u : List (List ℕ) = column a i in
    made ∙ ap (total 3329) (take_all j (zip2 pair_products u v) (omega (arith, all, size, length-zip2 pair_products u v (size ∙ sym long))))
