-- Products in the transform domain.
use Rattle.std.proofs.Common.{◌≡◌, ℕ, zero, suc, ◌+◌, ◌%◌, ◌<◌, ◌≤◌, List, [], ◌∷◌, All, length, get_or, map, slice_index, sum_by, refl, sym, ap, ap₂, ◌∙◌, arith}
use Rattle.std.specs.List.{range_with_len}
use Rattle.std.specs.Simd.Lanes.{zip2}
use Rattle.std.proofs.Math.Nat.{add-mod-mod, mod-lt}
use Rattle.std.proofs.lemmas.List.{get_or-map}
use Rattle.std.proofs.lemmas.List.Elements.{All-cons, All-head, All-nil, All-tail}
use Rattle.std.proofs.lemmas.List.FromFn.{fill_by_all, get_or-map-range_with_len, length-map-range_with_len}
use Rattle.std.proofs.lemmas.List.Sums.{sum_by-cons}
use Rattle.std.proofs.lemmas.Simd.{get_or-zip2, length-zip2, map-map}
use Rattle.module_lattice.specs.Pairs.{gamma, pair_products}
use Rattle.module_lattice.specs.Ring.{IsPolynomial, plus, product, sum}
use Rattle.module_lattice.specs.Vectors.{RowsHaveLength, dot_product, matrix_product, total, vector_sum}
use Rattle.lattice_transform.specs.Transform.{inverse_transform, transform}
use Rattle.lattice_transform.proofs.Inverse.{inverse-transform, length-transform, transform-inverse}
use Rattle.lattice_transform.proofs.ProductLaw.{IsPolynomial-product, transform-product}
use Rattle.lattice_transform.proofs.SumLaw.{transform-sum}
use Rattle.ml_kem.specs.Matrix.{column, noise, noise_polynomial, transposed}
use Rattle.kem_hash.specs.Family.{Family}
use Rattle.ml_kem.proofs.Ranges.{All-values}
use Rattle.lattice_transform.proofs.Polynomials.{IsPolynomial-transform}

-- ---- vectors of transforms

pub IsPolynomial-transforms : (v : List (List ℕ)) → All (IsPolynomial 3329) (map transform v)
IsPolynomial-transforms [] = All-nil (IsPolynomial 3329)
IsPolynomial-transforms (f ∷ v) =
    All-cons (IsPolynomial 3329) (transform f) (map transform v) (IsPolynomial-transform f) (IsPolynomial-transforms v)

pub transforms-inverse : (v : List (List ℕ)) → All (IsPolynomial 3329) v → map transform (map inverse_transform v) ≡ v
transforms-inverse [] each = refl
transforms-inverse (h ∷ v) each =
    ap₂ (λ (g : List ℕ) (w : List (List ℕ)). g ∷ w) (transform-inverse h (All-head (IsPolynomial 3329) h v each))
    (transforms-inverse v (All-tail (IsPolynomial 3329) h v each))

pub inverse-transforms : (v : List (List ℕ)) → All (IsPolynomial 3329) v → map inverse_transform (map transform v) ≡ v
inverse-transforms [] each = refl
inverse-transforms (f ∷ v) each =
    ap₂ (λ (g : List ℕ) (w : List (List ℕ)). g ∷ w) (inverse-transform f (All-head (IsPolynomial 3329) f v each))
    (inverse-transforms v (All-tail (IsPolynomial 3329) f v each))

-- ---- sums of polynomials

IsPolynomial-total : (fs : List (List ℕ)) → IsPolynomial 3329 (total 3329 fs)
IsPolynomial-total fs = record {
  size = length-map-range_with_len (λ k. sum_by (λ f. slice_index f k) fs % 3329) 0 256;
  each = All-values (λ k. sum_by (λ f. slice_index f k) fs % 3329) 3329 0 256 (λ k. mod-lt (sum_by (λ f. slice_index f k) fs) (omega arith));
}

IsPolynomial-sum : (f g : List ℕ) → IsPolynomial 3329 f → IsPolynomial 3329 g → IsPolynomial 3329 (sum 3329 f g)
IsPolynomial-sum f g first second =
    let size : length (sum 3329 f g) ≡ length f = length-zip2 (plus 3329) f g (first.size ∙ sym second.size) in
    record {
      size = size ∙ first.size;
      each = λ k d within.
          rw (get_or-zip2 (plus 3329) f g k 0 0 d (omega (arith, size, within)) (omega (arith, size, within, first.size, second.size)))
          (mod-lt (get_or f k 0 + get_or g k 0) (omega arith));
    }

-- one polynomial more, in front
sum-total : (f : List ℕ) (fs : List (List ℕ)) → length f ≡ 256 → sum 3329 f (total 3329 fs) ≡ total 3329 (f ∷ fs)
sum-total f fs long =
    let value : ℕ → ℕ = λ k. sum_by (λ g. slice_index g k) fs % 3329 in
    let size : length (total 3329 fs) ≡ 256 = length-map-range_with_len value 0 256 in
    fill_by_all (λ k. sum_by (λ g. slice_index g k) (f ∷ fs) % 3329) (sum 3329 f (total 3329 fs)) 256 0
    (length-zip2 (plus 3329) f (total 3329 fs) (long ∙ sym size) ∙ long)
    (λ k within.
    get_or-zip2 (plus 3329) f (total 3329 fs) k 0 0 0 (omega arith) (omega arith)
    ∙ ap (λ (x : ℕ). (get_or f k 0 + x) % 3329) (get_or-map-range_with_len value 0 256 k k 0 within (omega arith))
    ∙ add-mod-mod (get_or f k 0) (sum_by (λ g. slice_index g k) fs) 3329
    ∙ ap (λ (n : ℕ). n % 3329) (sym (sum_by-cons (λ g. slice_index g k) f fs)))

transform-zero : transform (total 3329 []) ≡ total 3329 []
unfolding transform gamma
transform-zero = refl

pub transform-total : (fs : List (List ℕ)) → All (IsPolynomial 3329) fs → transform (total 3329 fs) ≡ total 3329 (map transform fs)
transform-total [] each = transform-zero
transform-total (f ∷ fs) each =
    let first : IsPolynomial 3329 f = All-head (IsPolynomial 3329) f fs each in
    ap transform (sym (sum-total f fs first.size))
    ∙ transform-sum f (total 3329 fs) first (IsPolynomial-total fs)
    ∙ ap (sum 3329 (transform f)) (transform-total fs (All-tail (IsPolynomial 3329) f fs each))
    ∙ sum-total (transform f) (map transform fs) (length-transform f)

-- ---- products item by item

IsPolynomial-products : (u v : List (List ℕ)) → All (IsPolynomial 3329) (zip2 (product 3329) u v)
IsPolynomial-products [] v = All-nil (IsPolynomial 3329)
IsPolynomial-products (f ∷ u) [] = All-nil (IsPolynomial 3329)
IsPolynomial-products (f ∷ u) (g ∷ v) =
    All-cons (IsPolynomial 3329) (product 3329 f g) (zip2 (product 3329) u v) (IsPolynomial-product f g) (IsPolynomial-products u v)

transform-products : (u v : List (List ℕ)) → map transform (zip2 (product 3329) u v) ≡ zip2 pair_products (map transform u) (map transform v)
transform-products [] v = refl
transform-products (f ∷ u) [] = refl
transform-products (f ∷ u) (g ∷ v) =
    ap₂ (λ (h : List ℕ) (w : List (List ℕ)). h ∷ w) (transform-product f g) (transform-products u v)

pub transform-dot_product : (u v : List (List ℕ))
    → transform (dot_product 3329 (product 3329) u v) ≡ dot_product 3329 pair_products (map transform u) (map transform v)
transform-dot_product u v =
    transform-total (zip2 (product 3329) u v) (IsPolynomial-products u v) ∙ ap (total 3329) (transform-products u v)

-- the sum of the products of a vector h of transforms with those of v
pub inverse-dot_product : (h v : List (List ℕ)) → All (IsPolynomial 3329) h
    → inverse_transform (dot_product 3329 pair_products h (map transform v)) ≡ dot_product 3329 (product 3329) (map inverse_transform h) v
inverse-dot_product h v each =
    let u : List (List ℕ) = map inverse_transform h in
    ap (λ (x : List (List ℕ)). inverse_transform (dot_product 3329 pair_products x (map transform v))) (sym (transforms-inverse h each))
    ∙ ap inverse_transform (sym (transform-dot_product u v))
    ∙ inverse-transform (dot_product 3329 (product 3329) u v) (IsPolynomial-total (zip2 (product 3329) u v))

-- ---- matrices

-- a matrix times a vector, and a vector of polynomials more
pub IsPolynomial-matrix_product : (a : List (List (List ℕ))) (v w : List (List ℕ)) → All (IsPolynomial 3329) w
    → All (IsPolynomial 3329) (vector_sum 3329 (matrix_product 3329 pair_products a v) w)
IsPolynomial-matrix_product [] v w each = All-nil (IsPolynomial 3329)
IsPolynomial-matrix_product (row ∷ a) v [] each = All-nil (IsPolynomial 3329)
IsPolynomial-matrix_product (row ∷ a) v (f ∷ w) each =
    let dot : List ℕ = dot_product 3329 pair_products row v in
    All-cons (IsPolynomial 3329) (sum 3329 dot f) (vector_sum 3329 (matrix_product 3329 pair_products a v) w)
    (IsPolynomial-sum dot f (IsPolynomial-total (zip2 pair_products row v)) (All-head (IsPolynomial 3329) f w each))
    (IsPolynomial-matrix_product a v w (All-tail (IsPolynomial 3329) f w each))

-- A·s + e, for the matrix a of the transforms of A
pub transform-matrix_product : (a : List (List (List ℕ))) (s e : List (List ℕ)) → All (All (IsPolynomial 3329)) a → All (IsPolynomial 3329) e
    → map transform (vector_sum 3329 (matrix_product 3329 (product 3329) (map (map inverse_transform) a) s) e)
    ≡ vector_sum 3329 (matrix_product 3329 pair_products a (map transform s)) (map transform e)
transform-matrix_product [] s e rows each = refl
transform-matrix_product (row ∷ a) s [] rows each = refl
transform-matrix_product (row ∷ a) s (f ∷ e) rows each =
    let u : List (List ℕ) = map inverse_transform row in
    let dot : List ℕ = dot_product 3329 (product 3329) u s in
    ap₂ (λ (h : List ℕ) (w : List (List ℕ)). h ∷ w)
    (transform-sum dot f (IsPolynomial-total (zip2 (product 3329) u s)) (All-head (IsPolynomial 3329) f e each)
    ∙ ap (λ (h : List ℕ). sum 3329 h (transform f)) (transform-dot_product u s
    ∙ ap (λ (x : List (List ℕ)). dot_product 3329 pair_products x (map transform s)) (transforms-inverse row (All-head (All (IsPolynomial 3329)) row a rows))))
    (transform-matrix_product a s e (All-tail (All (IsPolynomial 3329)) row a rows) (All-tail (IsPolynomial 3329) f e each))

-- columns
column-inverse : (a : List (List (List ℕ))) (k i : ℕ) → i < k → RowsHaveLength k a → column (map (map inverse_transform) a) i ≡ map inverse_transform (column a i)
column-inverse [] k i within rows = refl
column-inverse (row ∷ a) k i within rows =
    let long : length row ≡ k = All-head (λ (r : List (List ℕ)). length r ≡ k) row a rows in
    ap₂ (λ (h : List ℕ) (w : List (List ℕ)). h ∷ w) (get_or-map inverse_transform row i [] [] (omega (arith, long, within)))
    (column-inverse a k i within (All-tail (λ (r : List (List ℕ)). length r ≡ k) row a rows))

IsPolynomial-column : (a : List (List (List ℕ))) (k i : ℕ) → i < k → RowsHaveLength k a → All (All (IsPolynomial 3329)) a → All (IsPolynomial 3329) (column a i)
IsPolynomial-column [] k i within rows each = All-nil (IsPolynomial 3329)
IsPolynomial-column (row ∷ a) k i within rows each =
    let long : length row ≡ k = All-head (λ (r : List (List ℕ)). length r ≡ k) row a rows in
    All-cons (IsPolynomial 3329) (get_or row i []) (column a i) (All-head (All (IsPolynomial 3329)) row a each i [] (omega (arith, long, within)))
    (IsPolynomial-column a k i within (All-tail (λ (r : List (List ℕ)). length r ≡ k) row a rows) (All-tail (All (IsPolynomial 3329)) row a each))

-- values that agree on a range
map-range_same : {X : Type 0} (f g : ℕ → X) (a n : ℕ) → ((i : ℕ) → a ≤ i → i < a + n → f i ≡ g i) → map f (range_with_len a n) ≡ map g (range_with_len a n)
map-range_same f g a zero same = refl
map-range_same f g a (suc n) same =
    ap₂ (λ x xs. x ∷ xs) (same a (omega arith) (omega arith)) (map-range_same f g (a + 1) n (λ i low high. same i (omega arith) (omega arith)))

-- sums of values over two ranges
zip2-ranges : {X : Type 0} (plus_of : X → X → X) (f g : ℕ → X) (k a n : ℕ)
    → map (λ i. plus_of (f i) (g (k + i))) (range_with_len a n) ≡ zip2 plus_of (map f (range_with_len a n)) (map g (range_with_len (k + a) n))
zip2-ranges plus_of f g k a zero = refl
zip2-ranges plus_of f g k a (suc n) =
    let next : k + (a + 1) ≡ k + a + 1 = omega arith in
    ap (λ xs. plus_of (f a) (g (k + a)) ∷ xs)
    (zip2-ranges plus_of f g k (a + 1) n
    ∙ ap (λ (b : ℕ). zip2 plus_of (map f (range_with_len (a + 1) n)) (map g (range_with_len b n))) next)

-- A^T·y + e1, polynomial by polynomial, for the matrix a of the transforms of A
pub transposed-product : (family : Family) (eta k : ℕ) (r : List ℕ) (a : List (List (List ℕ))) (y : List (List ℕ)) → RowsHaveLength k a → All (All (IsPolynomial 3329)) a
    → map (λ i. sum 3329 (inverse_transform (dot_product 3329 pair_products (column a i) (map transform y))) (noise_polynomial family eta r (k + i))) (range_with_len 0 k)
    ≡ vector_sum 3329 (matrix_product 3329 (product 3329) (transposed k (map (map inverse_transform) a)) y) (noise family eta r k k)
unfolding noise
transposed-product family eta k r a y rows each =
    let whole : List (List (List ℕ)) = map (map inverse_transform) a in
    let times : List (List ℕ) → List ℕ = λ x. dot_product 3329 (product 3329) x y in
    let at : ℕ → List ℕ = λ i. times (column whole i) in
    let e1 : ℕ → List ℕ = noise_polynomial family eta r in
    let start : k + 0 ≡ k = omega arith in
    map-range_same (λ i. sum 3329 (inverse_transform (dot_product 3329 pair_products (column a i) (map transform y))) (e1 (k + i))) (λ i. sum 3329 (at i) (e1 (k + i))) 0 k
    (λ i low high.
    let within : i < k = omega arith in
    ap (λ (x : List ℕ). sum 3329 x (e1 (k + i)))
    (inverse-dot_product (column a i) y (IsPolynomial-column a k i within rows each)
    ∙ ap times (sym (column-inverse a k i within rows))))
    ∙ zip2-ranges (sum 3329) at e1 k 0 k
    ∙ ap₂ (vector_sum 3329) (sym (map-map times (column whole) (range_with_len 0 k))) (ap (λ (b : ℕ). map e1 (range_with_len b k)) start)
