-- The transform of a product is the products of the pairs.
use Rattle.std.proofs.Common.{◌≡◌, ℕ, zero, suc, ◌+◌, ◌*◌, ◌%◌, ◌^◌, ◌<◌, List, length, get_or, refl, sym, ap, ap₂, ◌∙◌, arith}
use Rattle.std.proofs.Math.Nat.{mod-lt, mod-mod, mul_assoc, mul_comm, mul_left_comm}
use Rattle.std.proofs.lemmas.List.FromFn.{get_or-map-range_with_len, length-map-range_with_len}
use Rattle.module_lattice.specs.Pairs.{gamma, pair_products}
use Rattle.module_lattice.specs.Ring.{IsPolynomial, product, product_coefficient}
use Rattle.lattice_transform.specs.Transform.{inverse_transform, transform, transform_number}
use Rattle.lattice_transform.proofs.Inverse.{inverse-transform, length-transform, transform-at}
use Rattle.lattice_transform.proofs.Places.{length-pairs, pairs-at, same-pairs}
use Rattle.lattice_transform.proofs.Products.{over-times_last, product-weighed}
use Rattle.lattice_transform.proofs.Roots.{power_128}
use Rattle.lattice_transform.proofs.Sums.{over, over-pairs, over-plus, over-same, over-times, plus-mod, times-mod}
use Rattle.lattice_transform.proofs.Weights.{even, even-256, even-add, even-even, even-odd, odd, odd-256, odd-add, odd-even, odd-odd}

-- the numbers of f with weights
abbrev weighed : List ℕ → (ℕ → ℕ) → ℕ
weighed f w = over 0 256 (λ k. get_or f k 0 * w k)

-- ---- a number of the transform, as a sum over all coefficients

kept : (a b x y : ℕ) → b ≡ 0 → a * x + y * b ≡ a * x
kept a b x y none = ap (λ z. a * x + y * z) none ∙ omega arith

kept_last : (a b x y : ℕ) → b ≡ 0 → y * b + a * x ≡ a * x
kept_last a b x y none = ap (λ z. y * z + a * x) none ∙ omega arith

number-even : (f : List ℕ) (i : ℕ) → weighed f (even (gamma i)) % 3329 ≡ transform_number f 0 i
number-even f i =
    let g : ℕ = gamma i in
    ap (λ x. x % 3329)
    (over-pairs 0 128 (λ k. get_or f k 0 * even g k)
    ∙ over-same 0 128 (λ j. get_or f (2 * j) 0 * even g (2 * j) + get_or f (2 * j + 1) 0 * even g (2 * j + 1)) (λ j. get_or f (2 * j + 0) 0 * g ^ j)
    (λ j low high.
    let place : 2 * j ≡ 2 * j + 0 = omega arith in
    kept (get_or f (2 * j) 0) (even g (2 * j + 1)) (even g (2 * j)) (get_or f (2 * j + 1) 0) (even-odd g j)
    ∙ ap₂ (λ k x. get_or f k 0 * x) place (even-even g j)))

number-odd : (f : List ℕ) (i : ℕ) → weighed f (odd (gamma i)) % 3329 ≡ transform_number f 1 i
number-odd f i =
    let g : ℕ = gamma i in
    ap (λ x. x % 3329)
    (over-pairs 0 128 (λ k. get_or f k 0 * odd g k)
    ∙ over-same 0 128 (λ j. get_or f (2 * j) 0 * odd g (2 * j) + get_or f (2 * j + 1) 0 * odd g (2 * j + 1)) (λ j. get_or f (2 * j + 1) 0 * g ^ j)
    (λ j low high.
    kept_last (get_or f (2 * j + 1) 0) (odd g (2 * j)) (odd g (2 * j + 1)) (get_or f (2 * j) 0) (odd-even g j)
    ∙ ap (λ x. get_or f (2 * j + 1) 0 * x) (odd-odd g j)))

-- ---- a double sum whose weights are products

inner-term : (c a b x y : ℕ) → c * (a * x + b * y) ≡ a * (c * x) + b * (c * y)
inner-term c a b x y = grind arith

outer-term : (c a b x y : ℕ) → c * (a * x + b * y) ≡ c * a * x + c * b * y
outer-term c a b x y = grind arith

double : (f g : List ℕ) (u v u2 v2 : ℕ → ℕ) (w : ℕ → ℕ) → ((a b : ℕ) → w (a + b) ≡ u a * v b + u2 a * v2 b)
    → over 0 256 (λ a. get_or f a 0 * over 0 256 (λ b. get_or g b 0 * w (a + b))) ≡ weighed f u * weighed g v + weighed f u2 * weighed g v2
double f g u v u2 v2 w splits =
    over-same 0 256 (λ a. get_or f a 0 * over 0 256 (λ b. get_or g b 0 * w (a + b)))
    (λ a. get_or f a 0 * u a * weighed g v + get_or f a 0 * u2 a * weighed g v2)
    (λ a low high.
    ap (λ x. get_or f a 0 * x)
    (over-same 0 256 (λ b. get_or g b 0 * w (a + b)) (λ b. u a * (get_or g b 0 * v b) + u2 a * (get_or g b 0 * v2 b))
    (λ b low high. ap (λ x. get_or g b 0 * x) (splits a b) ∙ inner-term (get_or g b 0) (u a) (u2 a) (v b) (v2 b))
    ∙ over-plus 0 256 (λ b. u a * (get_or g b 0 * v b)) (λ b. u2 a * (get_or g b 0 * v2 b))
    ∙ ap₂ (λ x y. x + y) (over-times 0 256 (u a) (λ b. get_or g b 0 * v b)) (over-times 0 256 (u2 a) (λ b. get_or g b 0 * v2 b)))
    ∙ outer-term (get_or f a 0) (u a) (u2 a) (weighed g v) (weighed g v2))
    ∙ over-plus 0 256 (λ a. get_or f a 0 * u a * weighed g v) (λ a. get_or f a 0 * u2 a * weighed g v2)
    ∙ ap₂ (λ x y. x + y) (over-times_last 0 256 (weighed g v) (λ a. get_or f a 0 * u a)) (over-times_last 0 256 (weighed g v2) (λ a. get_or f a 0 * u2 a))

-- ---- the product's numbers

coefficients : (f g : List ℕ) (w : ℕ → ℕ) → weighed (product 3329 f g) w ≡ over 0 256 (λ k. product_coefficient 3329 f g k * w k)
unfolding product
coefficients f g w =
    over-same 0 256 (λ k. get_or (product 3329 f g) k 0 * w k) (λ k. product_coefficient 3329 f g k * w k)
    (λ k low high. ap (λ x. x * w k) (get_or-map-range_with_len (product_coefficient 3329 f g) 0 256 k k 0 (omega arith) (omega arith)))

turns : (i : ℕ) (w : ℕ → ℕ) → i < 128 → ((k : ℕ) → w (k + 256) ≡ w k * gamma i ^ 128) → (k : ℕ) → k < 256 → w (k + 256) % 3329 ≡ 3328 * w k % 3329
turns i w inside whole k low =
    ap (λ x. x % 3329) (whole k) ∙ times-mod 3329 (w k) (w k) (gamma i ^ 128) 3328 refl (power_128 i inside)
    ∙ ap (λ x. x % 3329) (mul_comm (w k) 3328)

factor : (f : List ℕ) (g : ℕ) → weighed f (λ a. g * odd g a) ≡ g * weighed f (odd g)
factor f g =
    over-same 0 256 (λ a. get_or f a 0 * (g * odd g a)) (λ a. g * (get_or f a 0 * odd g a)) (λ a low high. mul_left_comm (get_or f a 0) g (odd g a))
    ∙ over-times 0 256 g (λ a. get_or f a 0 * odd g a)

moved : (g a b : ℕ) → g * a * b ≡ a * b * g
moved g a b = mul_assoc g a b ∙ mul_comm g (a * b)

product-even : (f g : List ℕ) (i : ℕ) → i < 128 → transform_number (product 3329 f g) 0 i
    ≡ (weighed f (even (gamma i)) * weighed g (even (gamma i)) + weighed f (odd (gamma i)) * weighed g (odd (gamma i)) * gamma i) % 3329
product-even f g i inside =
    let r : ℕ = gamma i in
    sym (number-even (product 3329 f g) i)
    ∙ ap (λ x. x % 3329) (coefficients f g (even r))
    ∙ product-weighed 3329 (omega arith) f g (even r) (turns i (even r) inside (even-256 r))
    ∙ ap (λ x. x % 3329)
    (double f g (even r) (even r) (λ a. r * odd r a) (odd r) (even r) (even-add r)
    ∙ ap (λ x. weighed f (even r) * weighed g (even r) + x)
    (ap (λ x. x * weighed g (odd r)) (factor f r) ∙ moved r (weighed f (odd r)) (weighed g (odd r))))

product-odd : (f g : List ℕ) (i : ℕ) → i < 128 → transform_number (product 3329 f g) 1 i
    ≡ (weighed f (even (gamma i)) * weighed g (odd (gamma i)) + weighed f (odd (gamma i)) * weighed g (even (gamma i))) % 3329
product-odd f g i inside =
    let r : ℕ = gamma i in
    sym (number-odd (product 3329 f g) i)
    ∙ ap (λ x. x % 3329) (coefficients f g (odd r))
    ∙ product-weighed 3329 (omega arith) f g (odd r) (turns i (odd r) inside (odd-256 r))
    ∙ ap (λ x. x % 3329) (double f g (even r) (odd r) (odd r) (even r) (odd r) (odd-add r))

-- ---- pair by pair

abbrev pair_number : List ℕ → List ℕ → ℕ → ℕ → ℕ
pair_number f g zero i = (get_or f (2 * i) 0 * get_or g (2 * i) 0 + get_or f (2 * i + 1) 0 * get_or g (2 * i + 1) 0 * gamma i) % 3329
pair_number f g (suc p) i = (get_or f (2 * i) 0 * get_or g (2 * i + 1) 0 + get_or f (2 * i + 1) 0 * get_or g (2 * i) 0) % 3329

products-at : (f g : List ℕ) (parity i : ℕ) → parity < 2 → i < 128 → get_or (pair_products f g) (2 * i + parity) 0 ≡ pair_number f g parity i
unfolding pair_products
products-at f g parity i low inside = pairs-at (pair_number f g) 128 parity i low inside

length-products : (f g : List ℕ) → length (pair_products f g) ≡ 256
unfolding pair_products
length-products f g = length-pairs (pair_number f g) 0 128

-- the numbers of one pair, modulo q
first-of : (f : List ℕ) (i : ℕ) → i < 128 → weighed f (even (gamma i)) % 3329 ≡ get_or (transform f) (2 * i) 0 % 3329
first-of f i inside =
    let place : 2 * i + 0 ≡ 2 * i = omega arith in
    sym (mod-mod (weighed f (even (gamma i))) 3329)
    ∙ ap (λ x. x % 3329) (number-even f i ∙ sym (transform-at f 0 i (omega arith) inside) ∙ ap (λ (k : ℕ). get_or (transform f) k 0) place)

second-of : (f : List ℕ) (i : ℕ) → i < 128 → weighed f (odd (gamma i)) % 3329 ≡ get_or (transform f) (2 * i + 1) 0 % 3329
second-of f i inside =
    sym (mod-mod (weighed f (odd (gamma i))) 3329)
    ∙ ap (λ x. x % 3329) (number-odd f i ∙ sym (transform-at f 1 i (omega arith) inside))

transform-product-at : (f g : List ℕ) (parity i : ℕ) → parity < 2 → i < 128
    → transform_number (product 3329 f g) parity i ≡ pair_number (transform f) (transform g) parity i
transform-product-at f g zero i low inside =
    let r : ℕ = gamma i in
    product-even f g i inside
    ∙ plus-mod 3329 (weighed f (even r) * weighed g (even r)) (get_or (transform f) (2 * i) 0 * get_or (transform g) (2 * i) 0)
    (weighed f (odd r) * weighed g (odd r) * r) (get_or (transform f) (2 * i + 1) 0 * get_or (transform g) (2 * i + 1) 0 * r)
    (times-mod 3329 (weighed f (even r)) (get_or (transform f) (2 * i) 0) (weighed g (even r)) (get_or (transform g) (2 * i) 0) (first-of f i inside) (first-of g i inside))
    (times-mod 3329 (weighed f (odd r) * weighed g (odd r)) (get_or (transform f) (2 * i + 1) 0 * get_or (transform g) (2 * i + 1) 0) r r
    (times-mod 3329 (weighed f (odd r)) (get_or (transform f) (2 * i + 1) 0) (weighed g (odd r)) (get_or (transform g) (2 * i + 1) 0) (second-of f i inside) (second-of g i inside))
    refl)
transform-product-at f g (suc zero) i low inside =
    let r : ℕ = gamma i in
    product-odd f g i inside
    ∙ plus-mod 3329 (weighed f (even r) * weighed g (odd r)) (get_or (transform f) (2 * i) 0 * get_or (transform g) (2 * i + 1) 0)
    (weighed f (odd r) * weighed g (even r)) (get_or (transform f) (2 * i + 1) 0 * get_or (transform g) (2 * i) 0)
    (times-mod 3329 (weighed f (even r)) (get_or (transform f) (2 * i) 0) (weighed g (odd r)) (get_or (transform g) (2 * i + 1) 0) (first-of f i inside) (second-of g i inside))
    (times-mod 3329 (weighed f (odd r)) (get_or (transform f) (2 * i + 1) 0) (weighed g (even r)) (get_or (transform g) (2 * i) 0) (second-of f i inside) (first-of g i inside))
transform-product-at f g (suc (suc parity)) i low inside = absurd (omega arith)

pub transform-product : (f g : List ℕ) → transform (product 3329 f g) ≡ pair_products (transform f) (transform g)
transform-product f g =
    same-pairs (transform (product 3329 f g)) (pair_products (transform f) (transform g)) 128
    (length-transform (product 3329 f g)) (length-products (transform f) (transform g))
    (λ parity i low inside.
    transform-at (product 3329 f g) parity i low inside
    ∙ transform-product-at f g parity i low inside
    ∙ sym (products-at (transform f) (transform g) parity i low inside))

pub IsPolynomial-product : (f g : List ℕ) → IsPolynomial 3329 (product 3329 f g)
unfolding product
IsPolynomial-product f g = record {
  size = length-map-range_with_len (product_coefficient 3329 f g) 0 256;
  each = λ k d inside.
      let low : k < 256 = omega (arith, inside, length-map-range_with_len (product_coefficient 3329 f g) 0 256) in
      rw (get_or-map-range_with_len (product_coefficient 3329 f g) 0 256 k k d low (omega arith)) (mod-lt _ (omega arith));
}

pub inverse-of-products : (f g : List ℕ) → inverse_transform (pair_products (transform f) (transform g)) ≡ product 3329 f g
inverse-of-products f g =
    ap inverse_transform (sym (transform-product f g)) ∙ inverse-transform (product 3329 f g) (IsPolynomial-product f g)
