-- Sums of the coefficients of a polynomial with weights, modulo q. The weight at k + 256 is minus that at
-- k, since X^256 is -1.
use Rattle.std.proofs.Common.{◌≡◌, ℕ, zero, suc, ◌+◌, ◌*◌, ◌%◌, List, [], ◌∷◌, length, get_or, slice_index, sum_by, refl, sym, ap, ◌∙◌, arith}
use Rattle.std.specs.Simd.Lanes.{zip2}
use Rattle.std.proofs.Math.Nat.{add-mul, mod-mod, mul_left_comm}
use Rattle.std.proofs.lemmas.List.FromFn.{get_or-map-range_with_len}
use Rattle.std.proofs.lemmas.List.Sums.{sum_by-cons}
use Rattle.std.proofs.lemmas.Simd.{get_or-zip2}
use Rattle.module_lattice.specs.Ring.{plus, product, product_coefficient, sum}
use Rattle.module_lattice.specs.Vectors.{dot_product, total}
use Rattle.lattice_transform.proofs.Products.{product-weighed}
use Rattle.lattice_transform.proofs.Sums.{over, over-mod, over-plus, over-same, over-shift, over-suc, over-swap, over-times, over-zero, times-mod}

-- weights of this kind
abbrev pub Turns : (ℕ → ℕ) → Type 0
Turns w = (k : ℕ) → w (k + 256) % 3329 ≡ 3328 * w k % 3329

-- the coefficients of f with weights
abbrev pub form : (ℕ → ℕ) → List ℕ → ℕ
form w f = over 0 256 (λ k. get_or f k 0 * w k)

-- the weights of the powers of X in products by g
abbrev pub by : List ℕ → (ℕ → ℕ) → ℕ → ℕ
by g w i = over 0 256 (λ j. get_or g j 0 * w (i + j))

pub by-turns : (g : List ℕ) (w : ℕ → ℕ) → Turns w → Turns (by g w)
by-turns g w turns k =
    over-mod 3329 0 256 (λ j. get_or g j 0 * w (k + 256 + j)) (λ j. 3328 * (get_or g j 0 * w (k + j)))
    (λ j low high.
    let place : k + 256 + j ≡ k + j + 256 = omega arith in
    ap (λ (n : ℕ). get_or g j 0 * w n % 3329) place
    ∙ times-mod 3329 (get_or g j 0) (get_or g j 0) (w (k + j + 256)) (3328 * w (k + j)) refl (turns (k + j))
    ∙ ap (λ x. x % 3329) (mul_left_comm (get_or g j 0) 3328 (w (k + j))))
    ∙ ap (λ x. x % 3329) (over-times 0 256 3328 (λ j. get_or g j 0 * w (k + j)))

-- ---- products

pub form-product : (w : ℕ → ℕ) (f g : List ℕ) → Turns w → form w (product 3329 f g) % 3329 ≡ form (by g w) f % 3329
unfolding product
form-product w f g turns =
    ap (λ x. x % 3329)
    (over-same 0 256 (λ k. get_or (product 3329 f g) k 0 * w k) (λ k. product_coefficient 3329 f g k * w k)
    (λ k low high. ap (λ x. x * w k) (get_or-map-range_with_len (product_coefficient 3329 f g) 0 256 k k 0 (omega arith) (omega arith))))
    ∙ product-weighed 3329 (omega arith) f g w (λ k low. turns k)

-- either factor may give the weights
pub form-exchanged : (w : ℕ → ℕ) (f g : List ℕ) → form (by g w) f ≡ form (by f w) g
form-exchanged w f g =
    over-same 0 256 (λ i. get_or f i 0 * by g w i) (λ i. over 0 256 (λ j. get_or f i 0 * (get_or g j 0 * w (i + j))))
    (λ i low high. sym (over-times 0 256 (get_or f i 0) (λ j. get_or g j 0 * w (i + j))))
    ∙ over-swap 0 256 0 256 (λ i j. get_or f i 0 * (get_or g j 0 * w (i + j)))
    ∙ over-same 0 256 (λ j. over 0 256 (λ i. get_or f i 0 * (get_or g j 0 * w (i + j)))) (λ j. get_or g j 0 * by f w j)
    (λ j low high.
    over-same 0 256 (λ i. get_or f i 0 * (get_or g j 0 * w (i + j))) (λ i. get_or g j 0 * (get_or f i 0 * w (j + i)))
    (λ i i_low i_high.
    let place : i + j ≡ j + i = omega arith in
    mul_left_comm (get_or f i 0) (get_or g j 0) (w (i + j)) ∙ ap (λ (n : ℕ). get_or g j 0 * (get_or f i 0 * w n)) place)
    ∙ over-times 0 256 (get_or g j 0) (λ i. get_or f i 0 * w (j + i)))

-- and the weights of two factors are those of the two in turn
pub by-exchanged : (w : ℕ → ℕ) (f g : List ℕ) (a : ℕ) → by f (by g w) a ≡ by g (by f w) a
by-exchanged w f g a =
    over-same 0 256 (λ i. get_or f i 0 * by g w (a + i)) (λ i. over 0 256 (λ j. get_or f i 0 * (get_or g j 0 * w (a + i + j))))
    (λ i low high. sym (over-times 0 256 (get_or f i 0) (λ j. get_or g j 0 * w (a + i + j))))
    ∙ over-swap 0 256 0 256 (λ i j. get_or f i 0 * (get_or g j 0 * w (a + i + j)))
    ∙ over-same 0 256 (λ j. over 0 256 (λ i. get_or f i 0 * (get_or g j 0 * w (a + i + j)))) (λ j. get_or g j 0 * by f w (a + j))
    (λ j low high.
    over-same 0 256 (λ i. get_or f i 0 * (get_or g j 0 * w (a + i + j))) (λ i. get_or g j 0 * (get_or f i 0 * w (a + j + i)))
    (λ i i_low i_high.
    let place : a + i + j ≡ a + j + i = omega arith in
    mul_left_comm (get_or f i 0) (get_or g j 0) (w (a + i + j)) ∙ ap (λ (n : ℕ). get_or g j 0 * (get_or f i 0 * w n)) place)
    ∙ over-times 0 256 (get_or g j 0) (λ i. get_or f i 0 * w (a + j + i)))

pub form-same : (v w : ℕ → ℕ) (f : List ℕ) → ((k : ℕ) → v k ≡ w k) → form v f ≡ form w f
form-same v w f same =
    over-same 0 256 (λ k. get_or f k 0 * v k) (λ k. get_or f k 0 * w k) (λ k low high. ap (λ x. get_or f k 0 * x) (same k))

-- ---- sums

pub form-sum : (w : ℕ → ℕ) (f g : List ℕ) → length f ≡ 256 → length g ≡ 256 → form w (sum 3329 f g) % 3329 ≡ (form w f + form w g) % 3329
form-sum w f g long_f long_g =
    over-mod 3329 0 256 (λ k. get_or (sum 3329 f g) k 0 * w k) (λ k. get_or f k 0 * w k + get_or g k 0 * w k)
    (λ k low high.
    times-mod 3329 (get_or (sum 3329 f g) k 0) (get_or f k 0 + get_or g k 0) (w k) (w k)
    (ap (λ x. x % 3329) (get_or-zip2 (plus 3329) f g k 0 0 0 (omega arith) (omega arith)) ∙ mod-mod (get_or f k 0 + get_or g k 0) 3329) refl
    ∙ ap (λ x. x % 3329) (add-mul (get_or f k 0) (get_or g k 0) (w k)))
    ∙ ap (λ x. x % 3329) (over-plus 0 256 (λ k. get_or f k 0 * w k) (λ k. get_or g k 0 * w k))

totalled : (w : ℕ → ℕ) (fs : List (List ℕ)) → over 0 256 (λ k. sum_by (λ f. slice_index f k) fs * w k) ≡ sum_by (form w) fs
totalled w [] = over-zero 0 256 (λ k. 0 * w k) (λ k low high. omega arith)
totalled w (f ∷ fs) =
    over-same 0 256 (λ k. sum_by (λ g. slice_index g k) (f ∷ fs) * w k) (λ k. get_or f k 0 * w k + sum_by (λ g. slice_index g k) fs * w k)
    (λ k low high.
    ap (λ (x : ℕ). x * w k) (sum_by-cons (λ (g : List ℕ). slice_index g k) f fs) ∙ add-mul (get_or f k 0) (sum_by (λ g. slice_index g k) fs) (w k))
    ∙ over-plus 0 256 (λ k. get_or f k 0 * w k) (λ k. sum_by (λ g. slice_index g k) fs * w k)
    ∙ ap (λ x. form w f + x) (totalled w fs)
    ∙ sym (sum_by-cons (form w) f fs)

form-total : (w : ℕ → ℕ) (fs : List (List ℕ)) → form w (total 3329 fs) % 3329 ≡ sum_by (form w) fs % 3329
form-total w fs =
    over-mod 3329 0 256 (λ k. get_or (total 3329 fs) k 0 * w k) (λ k. sum_by (λ f. slice_index f k) fs * w k)
    (λ k low high.
    times-mod 3329 (get_or (total 3329 fs) k 0) (sum_by (λ f. slice_index f k) fs) (w k) (w k)
    (ap (λ x. x % 3329) (get_or-map-range_with_len (λ k. sum_by (λ f. slice_index f k) fs % 3329) 0 256 k k 0 (omega arith) (omega arith))
    ∙ mod-mod (sum_by (λ f. slice_index f k) fs) 3329) refl)
    ∙ ap (λ x. x % 3329) (totalled w fs)

-- ---- sums of products

-- a sum over two lists, item by item
sum_by-zip2 : (value : List ℕ → ℕ) (f : List ℕ → List ℕ → List ℕ) (n : ℕ) (u v : List (List ℕ)) → length u ≡ n → length v ≡ n
    → sum_by value (zip2 f u v) ≡ over 0 n (λ i. value (f (get_or u i []) (get_or v i [])))
sum_by-zip2 value f zero [] v long_u long_v = refl
sum_by-zip2 value f (suc n) [] v long_u long_v = absurd (omega arith)
sum_by-zip2 value f n (x ∷ u) [] long_u long_v = absurd (omega arith)
sum_by-zip2 value f zero (x ∷ u) (y ∷ v) long_u long_v = absurd (omega arith)
sum_by-zip2 value f (suc n) (x ∷ u) (y ∷ v) long_u long_v =
    let at : ℕ → ℕ = λ i. value (f (get_or (x ∷ u) i []) (get_or (y ∷ v) i [])) in
    let start : 1 ≡ 0 + 1 = refl in
    sum_by-cons value (f x y) (zip2 f u v)
    ∙ ap (λ z. value (f x y) + z)
    (sum_by-zip2 value f n u v (omega arith) (omega arith)
    ∙ over-same 0 n (λ i. value (f (get_or u i []) (get_or v i []))) (λ i. at (i + 1))
    (λ i low high. ap at (let next : suc i ≡ i + 1 = omega arith in next))
    ∙ sym (over-shift 0 n 1 at))
    ∙ sym (over-suc 0 n at)

pub form-dot : (w : ℕ → ℕ) (n : ℕ) (u v : List (List ℕ)) → Turns w → length u ≡ n → length v ≡ n
    → form w (dot_product 3329 (product 3329) u v) % 3329 ≡ over 0 n (λ i. form (by (get_or v i []) w) (get_or u i [])) % 3329
form-dot w n u v turns long_u long_v =
    form-total w (zip2 (product 3329) u v)
    ∙ ap (λ x. x % 3329) (sum_by-zip2 (form w) (product 3329) n u v long_u long_v)
    ∙ over-mod 3329 0 n (λ i. form w (product 3329 (get_or u i []) (get_or v i []))) (λ i. form (by (get_or v i []) w) (get_or u i []))
    (λ i low high. form-product w (get_or u i []) (get_or v i []) turns)
