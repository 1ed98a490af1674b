-- Products by powers of X.
use Rattle.std.proofs.Common.{◌≡◌, ◌≢◌, ℕ, zero, suc, ◌+◌, ◌-◌, ◌*◌, ◌%◌, ◌<◌, ◌≤◌, List, ◌++◌, length, take, drop, get_or, slice_index, map, refl, sym, ap, ◌∙◌, inl, inr, arith, length-append, length-drop}
use Rattle.std.specs.Prelude.{sum_by, ◌==◌, if◌then◌else◌}
use Rattle.std.specs.List.{range_with_len}
use Rattle.std.proofs.Math.Nat.{add-mod_right, mod-eq_of_lt, zero-mod}
use Rattle.std.proofs.lemmas.Bool.{cases_eq, cases_lt}
use Rattle.std.proofs.lemmas.Bool.Decides.{nat_tests}
use Rattle.std.proofs.lemmas.List.{ext_get_or, get_or-append_right, get_or-drop, get_or-map, get_or-take, get_or_append_left, length-map, length-take-le}
use Rattle.std.proofs.lemmas.List.FromFn.{get_or-map-range_with_len, length-map-range_with_len}
use Rattle.std.proofs.lemmas.List.Sums.{sum_by-cons}
use Rattle.module_lattice.specs.Ring.{IsPolynomial, minus, negated, power_of_x, product, product_coefficient}

-- a sum of zeros
sum_by-zeros : (h : ℕ → ℕ) (a n : ℕ) → ((i : ℕ) → a ≤ i → i < a + n → h i ≡ 0) → sum_by h (range_with_len a n) ≡ 0
sum_by-zeros h a zero zeros = refl
sum_by-zeros h a (suc n) zeros =
    let here : h a ≡ 0 = zeros a (omega arith) (omega arith) in
    let rest : sum_by h (range_with_len (a + 1) n) ≡ 0 =
    sum_by-zeros h (a + 1) n (λ i low high. zeros i (omega (arith, low)) (omega (arith, high))) in
    sum_by-cons h a (range_with_len (a + 1) n) ∙ omega (arith, here, rest)

-- a sum of zeros but for one place
sum_by-single : (h : ℕ → ℕ) (a n p : ℕ) → a ≤ p → p < a + n → ((i : ℕ) → a ≤ i → i < a + n → i ≢ p → h i ≡ 0)
    → sum_by h (range_with_len a n) ≡ h p
sum_by-single h a zero p low high zeros = absurd (omega (arith, low, high))
sum_by-single h a (suc n) p low high zeros = sum_by-cons h a (range_with_len (a + 1) n) ∙ elim (cases_eq a p) [
  | inl here ↦
      let rest : sum_by h (range_with_len (a + 1) n) ≡ 0 =
      sum_by-zeros h (a + 1) n (λ i i_low i_high. zeros i (omega (arith, i_low)) (omega (arith, i_high)) (omega (arith, i_low, here))) in
      omega (arith, rest, ap h here)
  | inr other ↦
      let none : h a ≡ 0 = zeros a (omega arith) (omega arith) other in
      let rest : sum_by h (range_with_len (a + 1) n) ≡ h p =
      sum_by-single h (a + 1) n p (omega (arith, low, other)) (omega (arith, high))
      (λ i i_low i_high apart. zeros i (omega (arith, i_low)) (omega (arith, i_high)) apart) in
      omega (arith, none, rest)
]

-- the coefficients of X^k
power_of_x-same : (k m : ℕ) → m < 256 → m ≡ k → slice_index (power_of_x k) m ≡ 1
power_of_x-same k m inside is =
    get_or-map-range_with_len (λ i. if i == k then 1 else 0) 0 256 m m 0 inside (omega arith) ∙ grind (arith, nat_tests)

power_of_x-other : (k m : ℕ) → m < 256 → m ≢ k → slice_index (power_of_x k) m ≡ 0
power_of_x-other k m inside other =
    get_or-map-range_with_len (λ i. if i == k then 1 else 0) 0 256 m m 0 inside (omega arith) ∙ grind (arith, nat_tests)

-- the products that reach a place with one sign, where one of them is with X^k
sum_by-met : (f : List ℕ) (k a n p s : ℕ) → a ≤ p → p < a + n → s ≡ p + k → s < a + 256 → a + n ≤ s + 1
    → sum_by (λ i. slice_index f i * slice_index (power_of_x k) (s - i)) (range_with_len a n) ≡ slice_index f p
sum_by-met f k a n p s low high is near far =
    sum_by-single (λ i. slice_index f i * slice_index (power_of_x k) (s - i)) a n p low high
    (λ i i_low i_high apart.
    ap (λ x. slice_index f i * x) (power_of_x-other k (s - i) (omega (arith, i_low, near)) (omega (arith, is, apart, i_high, far)))
    ∙ omega arith)
    ∙ ap (λ x. slice_index f p * x) (power_of_x-same k (s - p) (omega (arith, low, near)) (omega (arith, is)))
    ∙ omega arith

-- and where none is
sum_by-missed : (f : List ℕ) (k a n s : ℕ) → s < a + 256 → a + n ≤ s + 1 → ((i : ℕ) → a ≤ i → i < a + n → s ≢ i + k)
    → sum_by (λ i. slice_index f i * slice_index (power_of_x k) (s - i)) (range_with_len a n) ≡ 0
sum_by-missed f k a n s near far apart =
    sum_by-zeros (λ i. slice_index f i * slice_index (power_of_x k) (s - i)) a n
    (λ i low high.
    ap (λ x. slice_index f i * x)
    (power_of_x-other k (s - i) (omega (arith, low, near)) (λ e. apart i low high (omega (arith, e, high, far))))
    ∙ omega arith)

-- a sum that only one sign reaches
minus-zero : (q x : ℕ) → x < q → minus q (x % q) (0 % q) ≡ x
minus-zero q x within =
    let whole : q - 0 ≡ q = omega arith in
    ap (λ n. (n + (q - 0 % q)) % q) (mod-eq_of_lt within) ∙ ap (λ n. (x + (q - n)) % q) (zero-mod q)
    ∙ ap (λ n. (x + n) % q) whole ∙ add-mod_right x q ∙ mod-eq_of_lt within

zero-minus : (q x : ℕ) → x < q → minus q (0 % q) (x % q) ≡ negated q x
zero-minus q x within =
    let alone : 0 + (q - x) ≡ q - x = omega arith in
    ap (λ n. (n + (q - x % q)) % q) (zero-mod q) ∙ ap (λ n. (0 + (q - n)) % q) (mod-eq_of_lt within)
    ∙ ap (λ n. n % q) alone

-- the coefficients of the product
coefficient-kept : (q : ℕ) (f : List ℕ) (k j : ℕ) → IsPolynomial q f → j < 256 → k ≤ j
    → product_coefficient q f (power_of_x k) j ≡ slice_index f (j - k)
coefficient-kept q f k j p inside low =
    ap (λ x. minus q (x % q) (sum_by (λ i. slice_index f i * slice_index (power_of_x k) (256 + j - i)) (range_with_len (j + 1) (255 - j)) % q))
    (sum_by-met f k 0 (j + 1) (j - k) j (omega arith) (omega arith) (omega (arith, low)) (omega (arith, inside)) (omega arith))
    ∙ ap (λ x. minus q (slice_index f (j - k) % q) (x % q))
    (sum_by-missed f k (j + 1) (255 - j) (256 + j) (omega arith) (omega (arith, inside)) (λ i i_low i_high. omega (arith, i_low, i_high, low, inside)))
    ∙ minus-zero q (slice_index f (j - k)) (p.each (j - k) 0 (omega (arith, p.size, inside)))

coefficient-turned : (q : ℕ) (f : List ℕ) (k j : ℕ) → IsPolynomial q f → k < 256 → j < k
    → product_coefficient q f (power_of_x k) j ≡ negated q (slice_index f (256 - k + j))
coefficient-turned q f k j p inside high =
    ap (λ x. minus q (x % q) (sum_by (λ i. slice_index f i * slice_index (power_of_x k) (256 + j - i)) (range_with_len (j + 1) (255 - j)) % q))
    (sum_by-missed f k 0 (j + 1) j (omega (arith, inside, high)) (omega arith) (λ i i_low i_high. omega (arith, i_high, high)))
    ∙ ap (λ x. minus q (0 % q) (x % q))
    (sum_by-met f k (j + 1) (255 - j) (256 - k + j) (256 + j) (omega (arith, inside)) (omega (arith, high, inside)) (omega (arith, inside))
    (omega arith) (omega (arith, inside, high)))
    ∙ zero-minus q (slice_index f (256 - k + j)) (p.each (256 - k + j) 0 (omega (arith, p.size, inside, high)))

-- the places of the turned list
turned-low : (q : ℕ) (f : List ℕ) (k j : ℕ) → length f ≡ 256 → k < 256 → j < k
    → get_or (map (negated q) (drop (256 - k) f) ++ take (256 - k) f) j 0 ≡ negated q (slice_index f (256 - k + j))
turned-low q f k j size inside high =
    let there : j < length (drop (256 - k) f) = omega (arith, length-drop (256 - k) f, size, high) in
    get_or_append_left (map (negated q) (drop (256 - k) f)) (take (256 - k) f) 0 j (omega (arith, there, length-map (drop (256 - k) f) (negated q)))
    ∙ get_or-map (negated q) (drop (256 - k) f) j 0 0 there
    ∙ ap (negated q) (get_or-drop (256 - k) f j 0)

turned-high : (q : ℕ) (f : List ℕ) (k j : ℕ) → length f ≡ 256 → k < 256 → k ≤ j → j < 256
    → get_or (map (negated q) (drop (256 - k) f) ++ take (256 - k) f) j 0 ≡ slice_index f (j - k)
turned-high q f k j size inside low high =
    get_or-append_right (map (negated q) (drop (256 - k) f)) (take (256 - k) f) k j 0
    (length-map (drop (256 - k) f) (negated q) ∙ length-drop (256 - k) f ∙ omega (arith, size, inside)) low
    ∙ get_or-take (256 - k) f (j - k) 0 (omega (arith, low, high))

length-turned : (q : ℕ) (f : List ℕ) (k : ℕ) → length f ≡ 256 → k < 256
    → length (map (negated q) (drop (256 - k) f) ++ take (256 - k) f) ≡ 256
length-turned q f k size inside =
    length-append (map (negated q) (drop (256 - k) f)) (take (256 - k) f)
    ∙ omega (arith, length-map (drop (256 - k) f) (negated q), length-drop (256 - k) f, length-take-le (256 - k) f (omega (arith, size)), size, inside)

-- place by place they are the same
coefficient-power_of_x : (q : ℕ) (f : List ℕ) (k j : ℕ) → IsPolynomial q f → k < 256 → j < 256
    → product_coefficient q f (power_of_x k) j ≡ get_or (map (negated q) (drop (256 - k) f) ++ take (256 - k) f) j 0
coefficient-power_of_x q f k j p inside high = elim (cases_lt j k) [
  | inl turned ↦ coefficient-turned q f k j p inside turned ∙ sym (turned-low q f k j p.size inside turned)
  | inr low ↦ coefficient-kept q f k j p high low ∙ sym (turned-high q f k j p.size inside low high)
]

-- a product by X^k turns the coefficients by k places
pub product-power_of_x : (q k : ℕ) (f : List ℕ) → IsPolynomial q f → k < 256
    → product q f (power_of_x k) ≡ map (negated q) (drop (256 - k) f) ++ take (256 - k) f
unfolding product
product-power_of_x q k f p inside =
    ext_get_or 0 (map (product_coefficient q f (power_of_x k)) (range_with_len 0 256)) (map (negated q) (drop (256 - k) f) ++ take (256 - k) f)
    (length-map-range_with_len (product_coefficient q f (power_of_x k)) 0 256 ∙ sym (length-turned q f k p.size inside))
    (λ j within.
    let high : j < 256 = omega (arith, within, length-map-range_with_len (product_coefficient q f (power_of_x k)) 0 256) in
    get_or-map-range_with_len (product_coefficient q f (power_of_x k)) 0 256 j j 0 high (omega arith)
    ∙ coefficient-power_of_x q f k j p inside high)
