-- What v' - s·u' is.
use Rattle.std.proofs.Common.{◌≡◌, ℕ, ◌*◌, ◌<◌, ◌≤◌, List, ◌++◌, inl, inr, length, get_or, sym, ap, ap₂, ◌∙◌, arith}
use Rattle.std.specs.List.{flat_map}
use Rattle.std.proofs.lemmas.List.{ext_get_or, length-map}
use Rattle.std.proofs.lemmas.List.FromFn.{length-map-range_with_len}
use Rattle.std.proofs.lemmas.Simd.{get_or-zip2}
use Rattle.kem_hash.specs.Family.{Family}
use Rattle.module_lattice.specs.Groups.{ungroup}
use Rattle.module_lattice.specs.Ring.{IsPolynomial, difference, minus, plus, product, sum}
use Rattle.module_lattice.specs.Vectors.{matrix_product, vector_sum}
use Rattle.module_lattice.proofs.Regrouping.{length-regroup}
use Rattle.ml_kem.specs.Encryption.{compressed, decompressed, rounded_u, rounded_v}
use Rattle.ml_kem.specs.Keys.{Key}
use Rattle.ml_kem.specs.Matrix.{column, transposed}
use Rattle.ml_kem.specs.Parameters.{IsSet, Parameters}
use Rattle.ml_kem.specs.Rounding.{decompress}
use Rattle.decryption_noise.specs.Noise.{Randomness, change, change_of_u, change_of_v, noise_modulo, noise_sum, randomness, unrounded_u, unrounded_v}
use Rattle.decryption_noise.proofs.Changes.{IsPolynomial-change, IsPolynomial-changes, IsPolynomial-difference, sum-change, sum-changes}
use Rattle.decryption_noise.proofs.Keys.{IsPolynomial-noise, IsVector-noise, KeyIs}
use Rattle.decryption_noise.proofs.Parts.{rounded_u-is, rounded_v-is}
use Rattle.decryption_noise.proofs.Vectors.{IsPolynomial-dot, IsPolynomial-sum, IsVector, IsVector-matrix_product, IsVector-sum, dot, dot-sum_left, dot-sum_right, dot-transposed, vector_sum-assoc}

-- ---- the widths of a set

pub record Widths (set : Parameters) : Type 0 where
  pub du_positive : 1 ≤ set.du
  pub du_narrow : set.du ≤ 11
  pub dv_positive : 1 ≤ set.dv
  pub dv_narrow : set.dv ≤ 11

pub widths : (set : Parameters) → IsSet set → Widths set
widths set is = elim is [
  | inl e ↦ rw e (record { du_positive = omega arith; du_narrow = omega arith; dv_positive = omega arith; dv_narrow = omega arith })
  | inr rest ↦ elim rest [
    | inl e ↦ rw e (record { du_positive = omega arith; du_narrow = omega arith; dv_positive = omega arith; dv_narrow = omega arith })
    | inr e ↦ rw e (record { du_positive = omega arith; du_narrow = omega arith; dv_positive = omega arith; dv_narrow = omega arith })
  ]
]

-- ---- the message

pub length-bits : (m : List ℕ) → length m ≡ 32 → length (ungroup 1 m) ≡ 256
unfolding ungroup
length-bits m long = length-regroup 8 1 256 m (omega arith) (ap (λ (n : ℕ). 8 * n) long)

pub length-message : (m : List ℕ) → length m ≡ 32 → length (decompressed 1 m) ≡ 256
unfolding decompressed
length-message m long = length-map (ungroup 1 m) (decompress 1) ∙ length-bits m long

-- ---- u and v, before and after rounding

pub IsVector-u : (set : Parameters) (family : Family) (key : Key) (r : List ℕ) → IsVector set.k (unrounded_u set key (randomness set family r))
unfolding unrounded_u
IsVector-u set family key r =
    let y : List (List ℕ) = (randomness set family r).y in
    IsVector-sum set.k (matrix_product 3329 (product 3329) (transposed set.k key.a) y) (randomness set family r).e1
    (IsVector-matrix_product set.k (transposed set.k key.a) y (length-map-range_with_len (column key.a) 0 set.k))
    (IsVector-noise family set.eta2 r set.k set.k)

pub IsPolynomial-v : (set : Parameters) (family : Family) (key : Key) (m r : List ℕ) → length m ≡ 32 → IsPolynomial 3329 (unrounded_v key (randomness set family r) m)
unfolding unrounded_v
IsPolynomial-v set family key m r long =
    let y : List (List ℕ) = (randomness set family r).y in
    let e2 : List ℕ = (randomness set family r).e2 in
    let first : IsPolynomial 3329 (sum 3329 (dot key.t y) e2) =
    IsPolynomial-sum (dot key.t y) e2 (IsPolynomial-dot key.t y).size (IsPolynomial-noise family set.eta2 r (2 * set.k)).size in
    IsPolynomial-sum (sum 3329 (dot key.t y) e2) (decompressed 1 m) first.size (length-message m long)

-- the ciphertext that u and v are rounded to
abbrev pub cipher : Parameters → Family → Key → List ℕ → List ℕ → List ℕ
cipher set family key m r = flat_map (compressed set.du) (unrounded_u set key (randomness set family r)) ++ compressed set.dv (unrounded_v key (randomness set family r) m)

pub u-changed : (set : Parameters) (family : Family) (key : Key) (m r : List ℕ) → Widths set
    → rounded_u set (cipher set family key m r) ≡ vector_sum 3329 (unrounded_u set key (randomness set family r)) (change_of_u set key (randomness set family r))
u-changed set family key m r wide =
    let u : List (List ℕ) = unrounded_u set key (randomness set family r) in
    let is : IsVector set.k u = IsVector-u set family key r in
    rounded_u-is set u (compressed set.dv (unrounded_v key (randomness set family r) m)) wide.du_positive wide.du_narrow is.count is.each
    ∙ sym (sum-changes set.du u wide.du_narrow is.each)

pub v-changed : (set : Parameters) (family : Family) (key : Key) (m r : List ℕ) → Widths set → length m ≡ 32
    → rounded_v set (cipher set family key m r) ≡ sum 3329 (unrounded_v key (randomness set family r) m) (change_of_v set key (randomness set family r) m)
v-changed set family key m r wide long =
    let u : List (List ℕ) = unrounded_u set key (randomness set family r) in
    let v : List ℕ = unrounded_v key (randomness set family r) m in
    let is : IsVector set.k u = IsVector-u set family key r in
    let v_is : IsPolynomial 3329 v = IsPolynomial-v set family key m r long in
    rounded_v-is set u v wide.dv_positive wide.dv_narrow is.count is.each v_is.size ∙ sym (sum-change set.dv v wide.dv_narrow v_is)

-- ---- one coefficient

-- p is (A·s)·y, d is e·y, e2 and cv are noise, m is the message, and x is s·(e1 + cu)
beside : (p d e2 m cv x : ℕ) → x < 3329
    → minus 3329 (plus 3329 (plus 3329 (plus 3329 (plus 3329 p d) e2) m) cv) (plus 3329 p x) ≡ plus 3329 m (minus 3329 (plus 3329 (plus 3329 d e2) cv) x)
beside p d e2 m cv x low = omega arith

sum-at : (f g : List ℕ) (k : ℕ) → length f ≡ 256 → length g ≡ 256 → k < 256 → get_or (sum 3329 f g) k 0 ≡ plus 3329 (get_or f k 0) (get_or g k 0)
sum-at f g k long_f long_g low = get_or-zip2 (plus 3329) f g k 0 0 0 (omega (arith, long_f, low)) (omega (arith, long_g, low))

difference-at : (f g : List ℕ) (k : ℕ) → length f ≡ 256 → length g ≡ 256 → k < 256 → get_or (difference 3329 f g) k 0 ≡ minus 3329 (get_or f k 0) (get_or g k 0)
difference-at f g k long_f long_g low = get_or-zip2 (minus 3329) f g k 0 0 0 (omega (arith, long_f, low)) (omega (arith, long_g, low))

length-sum : (f g : List ℕ) → length f ≡ 256 → length g ≡ 256 → length (sum 3329 f g) ≡ 256
length-sum f g long_f long_g = (IsPolynomial-sum f g long_f long_g).size

all-beside : (p d e2 m cv x : List ℕ) → length p ≡ 256 → length d ≡ 256 → length e2 ≡ 256 → length m ≡ 256 → length cv ≡ 256 → IsPolynomial 3329 x
    → difference 3329 (sum 3329 (sum 3329 (sum 3329 (sum 3329 p d) e2) m) cv) (sum 3329 p x) ≡ sum 3329 m (difference 3329 (sum 3329 (sum 3329 d e2) cv) x)
all-beside p d e2 m cv x long_p long_d long_e2 long_m long_cv is_x =
    let a : List ℕ = sum 3329 p d in
    let b : List ℕ = sum 3329 a e2 in
    let c : List ℕ = sum 3329 b m in
    let v : List ℕ = sum 3329 c cv in
    let w : List ℕ = sum 3329 p x in
    let g : List ℕ = sum 3329 d e2 in
    let h : List ℕ = sum 3329 g cv in
    let n : List ℕ = difference 3329 h x in
    let long_a : length a ≡ 256 = length-sum p d long_p long_d in
    let long_b : length b ≡ 256 = length-sum a e2 long_a long_e2 in
    let long_c : length c ≡ 256 = length-sum b m long_b long_m in
    let long_v : length v ≡ 256 = length-sum c cv long_c long_cv in
    let long_w : length w ≡ 256 = length-sum p x long_p is_x.size in
    let long_g : length g ≡ 256 = length-sum d e2 long_d long_e2 in
    let long_h : length h ≡ 256 = length-sum g cv long_g long_cv in
    let long_n : length n ≡ 256 = (IsPolynomial-difference h x long_h is_x.size).size in
    let left : length (difference 3329 v w) ≡ 256 = (IsPolynomial-difference v w long_v long_w).size in
    ext_get_or 0 (difference 3329 v w) (sum 3329 m n) (left ∙ sym (length-sum m n long_m long_n))
    (λ k within.
    let low : k < 256 = omega (arith, within, left) in
    let in_x : k < length x = omega (arith, low, is_x.size) in
    difference-at v w k long_v long_w low
    ∙ ap₂ (minus 3329)
    (sum-at c cv k long_c long_cv low
    ∙ ap (λ (t : ℕ). plus 3329 t (get_or cv k 0))
    (sum-at b m k long_b long_m low
    ∙ ap (λ (t : ℕ). plus 3329 t (get_or m k 0))
    (sum-at a e2 k long_a long_e2 low ∙ ap (λ (t : ℕ). plus 3329 t (get_or e2 k 0)) (sum-at p d k long_p long_d low))))
    (sum-at p x k long_p is_x.size low)
    ∙ beside (get_or p k 0) (get_or d k 0) (get_or e2 k 0) (get_or m k 0) (get_or cv k 0) (get_or x k 0) (is_x.each k 0 in_x)
    ∙ sym (sum-at m n k long_m long_n low
    ∙ ap (plus 3329 (get_or m k 0))
    (difference-at h x k long_h is_x.size low
    ∙ ap (λ (t : ℕ). minus 3329 t (get_or x k 0))
    (sum-at g cv k long_g long_cv low ∙ ap (λ (t : ℕ). plus 3329 t (get_or cv k 0)) (sum-at d e2 k long_d long_e2 low)))))

-- ---- all

pub IsPolynomial-noise_modulo : (set : Parameters) (family : Family) (key : Key) (m r : List ℕ) → length m ≡ 32 → IsPolynomial 3329 (noise_modulo set family key m r)
unfolding noise_sum
IsPolynomial-noise_modulo set family key m r long =
    let drawn : Randomness = randomness set family r in
    let cu : List (List ℕ) = change_of_u set key drawn in
    let cv : List ℕ = change_of_v set key drawn m in
    let d : List ℕ = dot key.e drawn.y in
    let x : List ℕ = dot key.s (vector_sum 3329 drawn.e1 cu) in
    let long_e2 : length drawn.e2 ≡ 256 = (IsPolynomial-noise family set.eta2 r (2 * set.k)).size in
    let long_cv : length cv ≡ 256 = (IsPolynomial-change set.dv (unrounded_v key drawn m) (IsPolynomial-v set family key m r long).size).size in
    IsPolynomial-difference (sum 3329 (sum 3329 d drawn.e2) cv) x
    (length-sum (sum 3329 d drawn.e2) cv (length-sum d drawn.e2 (IsPolynomial-dot key.e drawn.y).size long_e2) long_cv)
    (IsPolynomial-dot key.s (vector_sum 3329 drawn.e1 cu)).size

pub noise-beside : (set : Parameters) (family : Family) (key : Key) (m r : List ℕ) → Widths set → KeyIs set family key → length m ≡ 32
    → difference 3329 (rounded_v set (cipher set family key m r)) (dot key.s (rounded_u set (cipher set family key m r)))
    ≡ sum 3329 (decompressed 1 m) (noise_modulo set family key m r)
unfolding unrounded_u unrounded_v noise_sum
noise-beside set family key m r wide is long =
    let k : ℕ = set.k in
    let drawn : Randomness = randomness set family r in
    let message : List ℕ = decompressed 1 m in
    let cu : List (List ℕ) = change_of_u set key drawn in
    let cv : List ℕ = change_of_v set key drawn m in
    let turned : List (List ℕ) = matrix_product 3329 (product 3329) (transposed k key.a) drawn.y in
    let multiplied : List (List ℕ) = matrix_product 3329 (product 3329) key.a key.s in
    let p : List ℕ = dot multiplied drawn.y in
    let d : List ℕ = dot key.e drawn.y in
    let x : List ℕ = dot key.s (vector_sum 3329 drawn.e1 cu) in
    let y_is : IsVector k drawn.y = IsVector-noise family set.eta1 r 0 k in
    let e1_is : IsVector k drawn.e1 = IsVector-noise family set.eta2 r k k in
    let u_is : IsVector k (unrounded_u set key drawn) = IsVector-u set family key r in
    let cu_is : IsVector k cu = record {
      count = length-map (unrounded_u set key drawn) (change set.du) ∙ u_is.count;
      each = IsPolynomial-changes set.du (unrounded_u set key drawn) u_is.each;
    } in
    let turned_is : IsVector k turned = IsVector-matrix_product k (transposed k key.a) drawn.y (length-map-range_with_len (column key.a) 0 k) in
    let multiplied_is : IsVector k multiplied = IsVector-matrix_product k key.a key.s is.a_is.count in
    let long_e2 : length drawn.e2 ≡ 256 = (IsPolynomial-noise family set.eta2 r (2 * k)).size in
    let long_cv : length cv ≡ 256 = (IsPolynomial-change set.dv (unrounded_v key drawn m) (IsPolynomial-v set family key m r long).size).size in
    let right : dot key.s (rounded_u set (cipher set family key m r)) ≡ sum 3329 p x =
    ap (dot key.s) (u-changed set family key m r wide ∙ vector_sum-assoc turned drawn.e1 cu)
    ∙ dot-sum_right k key.s turned (vector_sum 3329 drawn.e1 cu) is.s_is.count turned_is (IsVector-sum k drawn.e1 cu e1_is cu_is)
    ∙ ap (λ (f : List ℕ). sum 3329 f x) (sym (dot-transposed k key.a key.s drawn.y is.a_is.count is.a_is.rows is.s_is.count y_is.count)) in
    let t_is : dot key.t drawn.y ≡ sum 3329 p d =
    ap (λ (t : List (List ℕ)). dot t drawn.y) is.t_is ∙ dot-sum_left k multiplied key.e drawn.y multiplied_is is.e_is y_is.count in
    let left : rounded_v set (cipher set family key m r) ≡ sum 3329 (sum 3329 (sum 3329 (sum 3329 p d) drawn.e2) message) cv =
    v-changed set family key m r wide long ∙ ap (λ (f : List ℕ). sum 3329 (sum 3329 (sum 3329 f drawn.e2) message) cv) t_is in
    ap₂ (difference 3329) left right
    ∙ all-beside p d drawn.e2 message cv x (IsPolynomial-dot multiplied drawn.y).size (IsPolynomial-dot key.e drawn.y).size long_e2 (length-message m long) long_cv
    (IsPolynomial-dot key.s (vector_sum 3329 drawn.e1 cu))
