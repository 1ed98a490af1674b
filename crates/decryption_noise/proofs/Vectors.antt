-- Products of vectors and matrices of polynomials keep sums, and a matrix may change its side.
use Rattle.std.proofs.Common.{◌≡◌, ℕ, ◌+◌, ◌%◌, ◌<◌, List, [], ◌∷◌, All, length, get_or, slice_index, sum_by, refl, sym, ap, ap₂, ◌∙◌, arith}
use Rattle.std.specs.Simd.Lanes.{zip2}
use Rattle.std.proofs.Math.Nat.{mod-lt}
use Rattle.std.proofs.lemmas.List.{get_or-map, length-map}
use Rattle.std.proofs.lemmas.List.Elements.{All-cons, All-head, All-nil, All-tail}
use Rattle.std.proofs.lemmas.List.FromFn.{get_or-map-range_with_len, length-map-range_with_len}
use Rattle.std.proofs.lemmas.Simd.{get_or-zip2, length-zip2}
use Rattle.module_lattice.specs.Ring.{IsPolynomial, plus, product, sum}
use Rattle.module_lattice.specs.Vectors.{RowsHaveLength, dot_product, matrix_product, vector_sum}
use Rattle.ml_kem.specs.Matrix.{column, transposed}
use Rattle.lattice_transform.proofs.Sums.{over, over-mod, over-plus, over-same, over-swap, plus-mod}
use Rattle.decryption_noise.proofs.Forms.{by, by-exchanged, by-turns, form, form-dot, form-exchanged, form-same, form-sum}
use Rattle.decryption_noise.proofs.Units.{same-forms}

-- the product of two vectors
abbrev pub dot : List (List ℕ) → List (List ℕ) → List ℕ
dot u v = dot_product 3329 (product 3329) u v

-- a vector of n polynomials, of which only their lengths are told
pub record IsVector (n : ℕ) (v : List (List ℕ)) : Type 0 where
  pub count : length v ≡ n
  pub each : All (IsPolynomial 3329) v

pub IsPolynomial-dot : (u v : List (List ℕ)) → IsPolynomial 3329 (dot u v)
IsPolynomial-dot u v =
    let value : ℕ → ℕ = λ k. sum_by (λ f. slice_index f k) (zip2 (product 3329) u v) % 3329 in
    record {
      size = length-map-range_with_len value 0 256;
      each = λ k d within.
          rw (get_or-map-range_with_len value 0 256 k k d (omega (arith, within, length-map-range_with_len value 0 256)) (omega arith)) (mod-lt _ (omega arith));
    }

pub IsPolynomial-sum : (f g : List ℕ) → length f ≡ 256 → length g ≡ 256 → IsPolynomial 3329 (sum 3329 f g)
IsPolynomial-sum f g long_f long_g =
    let size : length (sum 3329 f g) ≡ 256 = length-zip2 (plus 3329) f g (long_f ∙ sym long_g) ∙ long_f in
    record {
      size = size;
      each = λ k d within.
          rw (get_or-zip2 (plus 3329) f g k 0 0 d (omega (arith, size, within)) (omega (arith, size, within)))
          (mod-lt (get_or f k 0 + get_or g k 0) (omega arith));
    }

-- ---- sums

pub dot-sum_left : (n : ℕ) (u t y : List (List ℕ)) → IsVector n u → IsVector n t → length y ≡ n
    → dot (vector_sum 3329 u t) y ≡ sum 3329 (dot u y) (dot t y)
dot-sum_left n u t y is_u is_t long =
    let both : List (List ℕ) = vector_sum 3329 u t in
    let size : length both ≡ n = length-zip2 (sum 3329) u t (is_u.count ∙ sym is_t.count) ∙ is_u.count in
    same-forms (dot both y) (sum 3329 (dot u y) (dot t y)) (IsPolynomial-dot both y)
    (IsPolynomial-sum (dot u y) (dot t y) (IsPolynomial-dot u y).size (IsPolynomial-dot t y).size)
    (λ w turns.
    let of : List (List ℕ) → ℕ → ℕ = λ v i. form (by (get_or y i []) w) (get_or v i []) in
    form-dot w n both y turns size long
    ∙ over-mod 3329 0 n (of both) (λ i. of u i + of t i)
    (λ i low high.
    let within : i < n = omega arith in
    ap (λ (f : List ℕ). form (by (get_or y i []) w) f % 3329) (get_or-zip2 (sum 3329) u t i [] [] [] (omega (arith, within, is_u.count)) (omega (arith, within, is_t.count)))
    ∙ form-sum (by (get_or y i []) w) (get_or u i []) (get_or t i [])
    (is_u.each i [] (omega (arith, within, is_u.count))).size (is_t.each i [] (omega (arith, within, is_t.count))).size)
    ∙ ap (λ x. x % 3329) (over-plus 0 n (of u) (of t))
    ∙ plus-mod 3329 (over 0 n (of u)) (form w (dot u y)) (over 0 n (of t)) (form w (dot t y))
    (sym (form-dot w n u y turns is_u.count long)) (sym (form-dot w n t y turns is_t.count long))
    ∙ sym (form-sum w (dot u y) (dot t y) (IsPolynomial-dot u y).size (IsPolynomial-dot t y).size))

-- either vector may stand first
pub dot-exchanged : (n : ℕ) (u v : List (List ℕ)) → length u ≡ n → length v ≡ n → dot u v ≡ dot v u
dot-exchanged n u v long_u long_v =
    same-forms (dot u v) (dot v u) (IsPolynomial-dot u v) (IsPolynomial-dot v u)
    (λ w turns.
    form-dot w n u v turns long_u long_v
    ∙ ap (λ x. x % 3329)
    (over-same 0 n (λ i. form (by (get_or v i []) w) (get_or u i [])) (λ i. form (by (get_or u i []) w) (get_or v i []))
    (λ i low high. form-exchanged w (get_or u i []) (get_or v i [])))
    ∙ sym (form-dot w n v u turns long_v long_u))

pub dot-sum_right : (n : ℕ) (s u t : List (List ℕ)) → length s ≡ n → IsVector n u → IsVector n t
    → dot s (vector_sum 3329 u t) ≡ sum 3329 (dot s u) (dot s t)
dot-sum_right n s u t long is_u is_t =
    let both : List (List ℕ) = vector_sum 3329 u t in
    let size : length both ≡ n = length-zip2 (sum 3329) u t (is_u.count ∙ sym is_t.count) ∙ is_u.count in
    dot-exchanged n s both long size ∙ dot-sum_left n u t s is_u is_t long
    ∙ ap₂ (sum 3329) (dot-exchanged n u s is_u.count long) (dot-exchanged n t s is_t.count long)

-- ---- a matrix

-- (A·s)·y = s·(A^T·y)
pub dot-transposed : (k : ℕ) (a : List (List (List ℕ))) (s y : List (List ℕ)) → length a ≡ k → RowsHaveLength k a → length s ≡ k → length y ≡ k
    → dot (matrix_product 3329 (product 3329) a s) y ≡ dot s (matrix_product 3329 (product 3329) (transposed k a) y)
dot-transposed k a s y rows each long_s long_y =
    let left : List (List ℕ) = matrix_product 3329 (product 3329) a s in
    let right : List (List ℕ) = matrix_product 3329 (product 3329) (transposed k a) y in
    let long_left : length left ≡ k = length-map a (λ row. dot row s) ∙ rows in
    let columns : length (transposed k a) ≡ k = length-map-range_with_len (column a) 0 k in
    let long_right : length right ≡ k = length-map (transposed k a) (λ row. dot row y) ∙ columns in
    let entry : ℕ → ℕ → List ℕ = λ i j. get_or (get_or a i []) j [] in
    same-forms (dot left y) (dot s right) (IsPolynomial-dot left y) (IsPolynomial-dot s right)
    (λ w turns.
    let s_at : ℕ → List ℕ = λ j. get_or s j [] in
    let y_at : ℕ → List ℕ = λ i. get_or y i [] in
    let term : ℕ → ℕ → ℕ = λ i j. form (by (s_at j) (by (y_at i) w)) (entry i j) in
    let one : over 0 k (λ i. form (by (y_at i) w) (get_or left i [])) % 3329 ≡ over 0 k (λ i. over 0 k (term i)) % 3329 =
    over-mod 3329 0 k (λ i. form (by (y_at i) w) (get_or left i [])) (λ i. over 0 k (term i))
    (λ i low high.
    let within : i < length a = omega (arith, high, rows) in
    ap (λ (f : List ℕ). form (by (y_at i) w) f % 3329) (get_or-map (λ row. dot row s) a i [] [] within)
    ∙ form-dot (by (y_at i) w) k (get_or a i []) s (by-turns (y_at i) w turns) (each i [] within) long_s) in
    let two : over 0 k (λ j. form (by (get_or right j []) w) (s_at j)) % 3329 ≡ over 0 k (λ j. over 0 k (λ i. term i j)) % 3329 =
    over-mod 3329 0 k (λ j. form (by (get_or right j []) w) (s_at j)) (λ j. over 0 k (λ i. term i j))
    (λ j low high.
    let within : j < k = omega (arith, high) in
    let long_column : length (column a j) ≡ k = length-map a (λ row. get_or row j []) ∙ rows in
    ap (λ x. x % 3329) (form-exchanged w (s_at j) (get_or right j []))
    ∙ ap (λ (f : List ℕ). form (by (s_at j) w) f % 3329)
    (get_or-map (λ row. dot row y) (transposed k a) j [] [] (omega (arith, within, columns))
    ∙ ap (λ (c : List (List ℕ)). dot c y) (get_or-map-range_with_len (column a) 0 k j j [] within (omega arith)))
    ∙ form-dot (by (s_at j) w) k (column a j) y (by-turns (s_at j) w turns) long_column long_y
    ∙ ap (λ x. x % 3329)
    (over-same 0 k (λ i. form (by (y_at i) (by (s_at j) w)) (get_or (column a j) i [])) (λ i. term i j)
    (λ i i_low i_high.
    ap (λ (f : List ℕ). form (by (y_at i) (by (s_at j) w)) f) (get_or-map (λ row. get_or row j []) a i [] [] (omega (arith, i_high, rows)))
    ∙ form-same (by (y_at i) (by (s_at j) w)) (by (s_at j) (by (y_at i) w)) (entry i j) (by-exchanged w (y_at i) (s_at j))))) in
    form-dot w k left y turns long_left long_y ∙ one ∙ ap (λ x. x % 3329) (over-swap 0 k 0 k term) ∙ sym two
    ∙ sym (form-dot w k s right turns long_s long_right))

-- ---- vectors

IsPolynomial-sums : (u t : List (List ℕ)) → All (IsPolynomial 3329) u → All (IsPolynomial 3329) t → All (IsPolynomial 3329) (vector_sum 3329 u t)
IsPolynomial-sums [] t each each_t = All-nil (IsPolynomial 3329)
IsPolynomial-sums (f ∷ u) [] each each_t = All-nil (IsPolynomial 3329)
IsPolynomial-sums (f ∷ u) (g ∷ t) each each_t =
    All-cons (IsPolynomial 3329) (sum 3329 f g) (vector_sum 3329 u t)
    (IsPolynomial-sum f g (All-head (IsPolynomial 3329) f u each).size (All-head (IsPolynomial 3329) g t each_t).size)
    (IsPolynomial-sums u t (All-tail (IsPolynomial 3329) f u each) (All-tail (IsPolynomial 3329) g t each_t))

pub IsVector-sum : (n : ℕ) (u t : List (List ℕ)) → IsVector n u → IsVector n t → IsVector n (vector_sum 3329 u t)
IsVector-sum n u t is_u is_t = record {
  count = length-zip2 (sum 3329) u t (is_u.count ∙ sym is_t.count) ∙ is_u.count;
  each = IsPolynomial-sums u t is_u.each is_t.each;
}

IsPolynomial-rows : (a : List (List (List ℕ))) (v : List (List ℕ)) → All (IsPolynomial 3329) (matrix_product 3329 (product 3329) a v)
IsPolynomial-rows [] v = All-nil (IsPolynomial 3329)
IsPolynomial-rows (row ∷ a) v =
    All-cons (IsPolynomial 3329) (dot row v) (matrix_product 3329 (product 3329) a v) (IsPolynomial-dot row v) (IsPolynomial-rows a v)

pub IsVector-matrix_product : (n : ℕ) (a : List (List (List ℕ))) (v : List (List ℕ)) → length a ≡ n → IsVector n (matrix_product 3329 (product 3329) a v)
IsVector-matrix_product n a v count = record {
  count = length-map a (λ row. dot row v) ∙ count;
  each = IsPolynomial-rows a v;
}

-- sums in any order
zip2-assoc : {X : Type 0} (f : X → X → X) (xs ys zs : List X) → ((x y z : X) → f (f x y) z ≡ f x (f y z)) → zip2 f (zip2 f xs ys) zs ≡ zip2 f xs (zip2 f ys zs)
zip2-assoc f [] ys zs assoc = refl
zip2-assoc f (x ∷ xs) [] zs assoc = refl
zip2-assoc f (x ∷ xs) (y ∷ ys) [] assoc = refl
zip2-assoc f (x ∷ xs) (y ∷ ys) (z ∷ zs) assoc = ap₂ (λ v vs. v ∷ vs) (assoc x y z) (zip2-assoc f xs ys zs assoc)

plus-assoc : (a b c : ℕ) → plus 3329 (plus 3329 a b) c ≡ plus 3329 a (plus 3329 b c)
plus-assoc a b c = omega arith

pub vector_sum-assoc : (u v w : List (List ℕ)) → vector_sum 3329 (vector_sum 3329 u v) w ≡ vector_sum 3329 u (vector_sum 3329 v w)
vector_sum-assoc u v w = zip2-assoc (sum 3329) u v w (λ f g h. zip2-assoc (plus 3329) f g h plus-assoc)
