-- How many units there are, how wide numbers may be, and what one subtraction does.
use Rattle.std.proofs.Common.{◌≡◌, ℕ, ◌+◌, ◌*◌, ◌/◌, ◌%◌, ◌^◌, ◌<◌, ◌≤◌, List, [], ◌∷◌, length, map, All, refl, ap, ◌∙◌, arith, mul-le-mul_left, ◌⊎◌, inl, inr, pow_mono}
use Rattle.std.proofs.Math.Nat.{div-add-mod, mul-div-le}
use Rattle.std.proofs.lemmas.Bool.{cases_lt}
use Rattle.std.proofs.lemmas.Bool.Decides.{nat_tests}
use Rattle.std.proofs.lemmas.List.Elements.{All-head, All-map, All-tail, All-weaker}
use Rattle.module_lattice.specs.Groups.{decode12, groups, reduced_once, ungroup}
use Rattle.module_lattice.proofs.Regrouping.{regroup-regroup}

-- ---- v values and b bytes in each unit of 256 values

-- v numbers of d bits in whole bytes
pub whole-bytes : (d v : ℕ) → d * v % 8 ≡ 0 → d * v ≡ 8 * (d * v / 8)
whole-bytes d v whole = omega arith

-- so many bits in whole numbers of d bits
pub whole-numbers : (d bits : ℕ) → bits % d ≡ 0 → bits ≡ d * (bits / d)
whole-numbers d bits whole = omega (arith, div-add-mod bits d)

pub value-room : (v u : ℕ) → u < 256 / v → v * u + v ≤ 256
value-room v u lt = omega (arith, mul-le-mul_left v lt, mul-div-le 256 v)

pub byte-room : (d v b u : ℕ) → d * v ≡ 8 * b → u < 256 / v → b * u + b ≤ 32 * d
byte-room d v b u whole lt =
    omega (arith, ap (λ (k : ℕ). k * u) whole, mul-le-mul_left d (value-room v u lt))

pub values-done : (v u : ℕ) → 256 % v ≡ 0 → u ≤ 256 / v → 256 / v ≤ u → v * u ≡ 256
values-done v u whole le ge =
    let all : u ≡ 256 / v = omega arith in
    ap (λ (k : ℕ). v * k) all ∙ omega (arith, div-add-mod 256 v)

pub bytes-done : (d v b u : ℕ) → d * v ≡ 8 * b → v * u ≡ 256 → b * u ≡ 32 * d
bytes-done d v b u whole all =
    let e : d * (v * u) ≡ d * 256 = ap (λ (k : ℕ). d * k) all in
    let f : d * v * u ≡ 8 * b * u = ap (λ (k : ℕ). k * u) whole in
    omega arith

-- ---- what the numbers stay below

-- a width whose powers stay below 2^31
pub width-narrow : (q d : ℕ) → 2 * q < 2 ^ 32 → (2 ^ d ≤ q) ⊎ ((d ≡ 12) × (4096 ≤ 2 * q)) → d ≤ 32
width-narrow q d below width = elim width [
  | inl fits ↦ elim (cases_lt d 33) [
    | inl lt ↦ omega arith
    | inr ge ↦ let wide : 2 ^ 33 ≤ 2 ^ d = pow_mono ge in absurd (omega arith)
  ]
  | inr twelve ↦ omega arith
]

reduced_once-below : (q x : ℕ) → x < q → reduced_once q x ≡ x
reduced_once-below q x lt = grind (arith, nat_tests)

-- one subtraction is enough
pub All-reduced : (q : ℕ) (xs : List ℕ) → (2 ^ 12 ≤ q) ⊎ (4096 ≤ 2 * q) → All (λ x. x < 2 ^ 12) xs → All (λ x. x < q) (map (reduced_once q) xs)
All-reduced q xs width each =
    All-map (λ x. x < q) (reduced_once q) xs (All-weaker (λ x. x < 2 ^ 12) (λ x. reduced_once q x < q) (λ x lt.
    elim (cases_lt x q) [
      | inl below ↦ grind (arith, nat_tests)
      | inr above ↦ grind (arith, nat_tests)
    ]) xs each)

pub All-narrow : (q d : ℕ) (xs : List ℕ) → 2 ^ d ≤ q → All (λ x. x < 2 ^ d) xs → All (λ x. x < q) xs
All-narrow q d xs fits each = All-weaker (λ x. x < 2 ^ d) (λ x. x < q) (λ x lt. omega arith) xs each

-- what is below q stays
map-reduced_once : (q : ℕ) (xs : List ℕ) → All (λ x. x < q) xs → map (reduced_once q) xs ≡ xs
map-reduced_once q [] each = refl
map-reduced_once q (x ∷ xs) each =
    let below : x < q = All-head (λ y. y < q) x xs each in
    ap (λ (y : ℕ). y ∷ map (reduced_once q) xs) (reduced_once-below q x below)
    ∙ ap (λ (ys : List ℕ). x ∷ ys) (map-reduced_once q xs (All-tail (λ y. y < q) x xs each))

pub decode12-groups : (q n : ℕ) (values : List ℕ) → 12 * length values ≡ 8 * n → All (λ x. x < 2 ^ 12) values → All (λ x. x < q) values → decode12 q (groups 12 values) ≡ values
unfolding decode12 groups ungroup
decode12-groups q n values whole each below =
    ap (map (reduced_once q)) (regroup-regroup 12 8 n values (omega arith) (omega arith) whole each) ∙ map-reduced_once q values below
