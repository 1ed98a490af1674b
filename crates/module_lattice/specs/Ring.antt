-- Polynomials over the integers modulo q as lists of their coefficients, that of X^0 first
-- (FIPS 203, sections 2.3 and 2.4).
use Rattle.std.specs.Prelude.{◌≡◌, ℕ, ◌+◌, ◌-◌, ◌*◌, ◌%◌, ◌<◌, List, length, map, All, sum_by, slice_index, slice_set, ◌==◌, if◌then◌else◌}
use Rattle.std.specs.List.{range_with_len}
use Rattle.std.specs.Simd.Lanes.{zip2}

-- a polynomial: 256 numbers below q
pub record IsPolynomial (q : ℕ) (f : List ℕ) : Type 0 where
  pub size : length f ≡ 256
  pub each : All (λ x. x < q) f

-- a + b modulo q
abbrev pub plus : ℕ → ℕ → ℕ → ℕ
plus q a b = (a + b) % q

-- a - b modulo q, for b up to q
abbrev pub minus : ℕ → ℕ → ℕ → ℕ
minus q a b = (a + (q - b)) % q

-- -a modulo q, for a up to q
abbrev pub negated : ℕ → ℕ → ℕ
negated q a = (q - a) % q

-- a·b modulo q
abbrev pub times : ℕ → ℕ → ℕ → ℕ
times q a b = a * b % q

-- f + g
abbrev pub sum : ℕ → List ℕ → List ℕ → List ℕ
sum q f g = zip2 (plus q) f g

-- f - g
abbrev pub difference : ℕ → List ℕ → List ℕ → List ℕ
difference q f g = zip2 (minus q) f g

-- -f
abbrev pub negation : ℕ → List ℕ → List ℕ
negation q f = map (negated q) f

-- a·f, for a number a
abbrev pub multiple : ℕ → ℕ → List ℕ → List ℕ
multiple q a f = map (times q a) f

-- coefficient k of f·g modulo X^256 + 1 and q: each product of coefficients i and j is added at
-- i + j, and subtracted at i + j - 256 where i + j is past 255, since X^256 is -1 (section 2.3)
abbrev pub product_coefficient : ℕ → List ℕ → List ℕ → ℕ → ℕ
product_coefficient q f g k =
    let below = sum_by (λ i. slice_index f i * slice_index g (k - i)) (range_with_len 0 (k + 1)) in
    let wrapped = sum_by (λ i. slice_index f i * slice_index g (256 + k - i)) (range_with_len (k + 1) (255 - k)) in
    minus q (below % q) (wrapped % q)

-- f·g modulo X^256 + 1 and q (section 2.3)
unfoldable pub product : ℕ → List ℕ → List ℕ → List ℕ
product q f g = map (product_coefficient q f g) (range_with_len 0 256)

-- X^k, for k below 256
abbrev pub power_of_x : ℕ → List ℕ
power_of_x k = map (λ i. if i == k then 1 else 0) (range_with_len 0 256)

-- a butterfly at i and j with zeta: with a and b the numbers there, a + zeta·b at i and a - zeta·b
-- at j, modulo q (section 4.3, algorithm 9)
abbrev pub butterfly : ℕ → ℕ → ℕ → ℕ → List ℕ → List ℕ
butterfly q i j zeta f =
    let a = slice_index f i in
    let turned = times q zeta (slice_index f j) in
    slice_set (slice_set f i (plus q a turned)) j (minus q a turned)
