-- The transform of a product is the products of the transforms.
use Rattle.std.proofs.Common.{◌≡◌, ℕ, ◌+◌, ◌*◌, ◌%◌, ◌^◌, ◌<◌, List, length, get_or, refl, sym, ap, ap₂, ◌∙◌, arith}
use Rattle.std.proofs.Math.Nat.{mod-lt, mul_comm}
use Rattle.std.proofs.lemmas.List.FromFn.{get_or-map-range_with_len, length-map-range_with_len}
use Rattle.std.proofs.lemmas.Nat.{mul-mod, pow-add}
use Rattle.std.proofs.lemmas.Simd.{length-zip2, get_or-zip2}
use Rattle.module_lattice.specs.Ring.{IsPolynomial, product, product_coefficient, times}
use Rattle.lattice_transform.proofs.Products.{over-times_last, product-weighed}
use Rattle.lattice_transform.proofs.Sums.{over, over-same, over-times, times-mod}
use Rattle.dsa_ring.specs.Transform.{inverse_transform, place_products, root, transform, transform_number}
use Rattle.dsa_ring.proofs.Inverse.{inverse-transform, length-transform, same-numbers, transform-at}
use Rattle.dsa_ring.proofs.Roots.{power_256}

-- the numbers of f with the powers of a root
abbrev weighed : List ℕ → ℕ → ℕ
weighed f z = over 0 256 (λ k. get_or f k 0 * z ^ k)

regrouped : (a b x y : ℕ) → a * (b * (x * y)) ≡ a * x * (b * y)
regrouped a b x y = grind arith

-- a double sum whose weights are products
double : (f g : List ℕ) (z : ℕ) → over 0 256 (λ a. get_or f a 0 * over 0 256 (λ b. get_or g b 0 * z ^ (a + b))) ≡ weighed f z * weighed g z
double f g z =
    over-same 0 256 (λ a. get_or f a 0 * over 0 256 (λ b. get_or g b 0 * z ^ (a + b))) (λ a. get_or f a 0 * z ^ a * weighed g z)
    (λ a low high.
    sym (over-times 0 256 (get_or f a 0) (λ b. get_or g b 0 * z ^ (a + b)))
    ∙ over-same 0 256 (λ b. get_or f a 0 * (get_or g b 0 * z ^ (a + b))) (λ b. get_or f a 0 * z ^ a * (get_or g b 0 * z ^ b))
    (λ b low high. ap (λ x. get_or f a 0 * (get_or g b 0 * x)) (pow-add z a b) ∙ regrouped (get_or f a 0) (get_or g b 0) (z ^ a) (z ^ b))
    ∙ over-times 0 256 (get_or f a 0 * z ^ a) (λ b. get_or g b 0 * z ^ b))
    ∙ over-times_last 0 256 (weighed g z) (λ a. get_or f a 0 * z ^ a)

coefficients : (f g : List ℕ) (w : ℕ → ℕ) → over 0 256 (λ k. get_or (product 8380417 f g) k 0 * w k) ≡ over 0 256 (λ k. product_coefficient 8380417 f g k * w k)
unfolding product
coefficients f g w =
    over-same 0 256 (λ k. get_or (product 8380417 f g) k 0 * w k) (λ k. product_coefficient 8380417 f g k * w k)
    (λ k low high. ap (λ x. x * w k) (get_or-map-range_with_len (product_coefficient 8380417 f g) 0 256 k k 0 (omega arith) (omega arith)))

-- X^256 is -1
turns : (i : ℕ) → i < 256 → (k : ℕ) → k < 256 → root i ^ (k + 256) % 8380417 ≡ 8380416 * root i ^ k % 8380417
turns i inside k low =
    ap (λ x. x % 8380417) (pow-add (root i) k 256)
    ∙ times-mod 8380417 (root i ^ k) (root i ^ k) (root i ^ 256) 8380416 refl (power_256 i inside)
    ∙ ap (λ x. x % 8380417) (mul_comm (root i ^ k) 8380416)

number-product : (f g : List ℕ) (i : ℕ) → i < 256 → transform_number (product 8380417 f g) i ≡ times 8380417 (transform_number f i) (transform_number g i)
number-product f g i inside =
    let z : ℕ = root i in
    ap (λ x. x % 8380417) (coefficients f g (λ k. z ^ k))
    ∙ product-weighed 8380417 (omega arith) f g (λ k. z ^ k) (turns i inside)
    ∙ ap (λ x. x % 8380417) (double f g z)
    ∙ mul-mod (weighed f z) (weighed g z) 8380417

products-at : (a b : List ℕ) (i : ℕ) → length a ≡ 256 → length b ≡ 256 → i < 256 → get_or (place_products a b) i 0 ≡ times 8380417 (get_or a i 0) (get_or b i 0)
unfolding place_products
products-at a b i long long2 inside = get_or-zip2 (times 8380417) a b i 0 0 0 (omega (arith, long)) (omega (arith, long2))

length-products : (a b : List ℕ) → length a ≡ 256 → length b ≡ 256 → length (place_products a b) ≡ 256
unfolding place_products
length-products a b long long2 = length-zip2 (times 8380417) a b (long ∙ sym long2) ∙ long

-- a list whose numbers are those products
pub all-products : (a b v : List ℕ) → length a ≡ 256 → length b ≡ 256 → length v ≡ 256
    → ((k : ℕ) → k < 256 → get_or v k 0 ≡ times 8380417 (get_or a k 0) (get_or b k 0)) → v ≡ place_products a b
all-products a b v long long2 long3 made =
    same-numbers v (place_products a b) long3 (length-products a b long long2) (λ i inside. made i inside ∙ sym (products-at a b i long long2 inside))

pub transform-product : (f g : List ℕ) → transform (product 8380417 f g) ≡ place_products (transform f) (transform g)
transform-product f g =
    same-numbers (transform (product 8380417 f g)) (place_products (transform f) (transform g)) (length-transform (product 8380417 f g))
    (length-products (transform f) (transform g) (length-transform f) (length-transform g))
    (λ i inside.
    transform-at (product 8380417 f g) i inside
    ∙ number-product f g i inside
    ∙ sym (products-at (transform f) (transform g) i (length-transform f) (length-transform g) inside
    ∙ ap₂ (times 8380417) (transform-at f i inside) (transform-at g i inside)))

IsPolynomial-product : (f g : List ℕ) → IsPolynomial 8380417 (product 8380417 f g)
unfolding product
IsPolynomial-product f g = record {
  size = length-map-range_with_len (product_coefficient 8380417 f g) 0 256;
  each = λ k d inside.
      let low : k < 256 = omega (arith, inside, length-map-range_with_len (product_coefficient 8380417 f g) 0 256) in
      rw (get_or-map-range_with_len (product_coefficient 8380417 f g) 0 256 k k d low (omega arith)) (mod-lt _ (omega arith));
}

pub inverse-of-products : (f g : List ℕ) → inverse_transform (place_products (transform f) (transform g)) ≡ product 8380417 f g
inverse-of-products f g =
    ap inverse_transform (sym (transform-product f g)) ∙ inverse-transform (product 8380417 f g) (IsPolynomial-product f g)
