-- Coefficients of noise for an eta of 2, two of each byte.
use Rattle.std.proofs.Common.{◌≡◌, ◌≢◌, ℕ, ◌+◌, ◌*◌, ◌/◌, ◌%◌, ◌<◌, ◌≤◌, List, length, get_or, sum_by, refl, ap, ap₂, sym, ◌∙◌, arith, inl, inr}
use Rattle.std.proofs.Math.ListN.{set}
use Rattle.std.specs.Int.{bit_at}
use Rattle.std.specs.List.{range_with_len}
use Rattle.std.proofs.lemmas.Bool.{cases_eq}
use Rattle.std.proofs.lemmas.Grind.{get_or-set_at}
use Rattle.std.proofs.lemmas.List.{get_or-set_other, length-set}
use Rattle.module_lattice.specs.Bits.{byte_bit}
use Rattle.module_lattice.specs.Ring.{minus}
use Rattle.ml_kem.specs.Samples.{bit_sum, cbd_coefficient}
use Rattle.ml_kem.proofs.Ranges.{sum_by-range_more}

-- a sum over two numbers
sum_by-two : (f : ℕ → ℕ) (a b : ℕ) → b ≡ a + 1 → sum_by f (range_with_len a 2) ≡ f a + f b
sum_by-two f a b next =
    let none : a ≡ a + 0 = omega arith in
    let one : sum_by f (range_with_len a 1) ≡ 0 + f a = sum_by-range_more f a 0 a none in
    let two : sum_by f (range_with_len a 2) ≡ sum_by f (range_with_len a 1) + f b = sum_by-range_more f a 1 b next in
    omega (arith, one, two)

-- a bit by its byte and its place there
byte_bit-at : (bytes : List ℕ) (k t n : ℕ) → n < 8 → k ≡ 8 * t + n → byte_bit bytes k ≡ bit_at (get_or bytes t 0) n
byte_bit-at bytes k t n small is =
    let byte : k / 8 ≡ t = omega arith in
    let place : k % 8 ≡ n = omega arith in
    ap₂ (λ (b i : ℕ). bit_at (get_or bytes b 0) i) byte place

bit_sum-two : (bytes : List ℕ) (k t n m : ℕ) → m < 8 → m ≡ n + 1 → k ≡ 8 * t + n
    → bit_sum bytes k 2 ≡ bit_at (get_or bytes t 0) n + bit_at (get_or bytes t 0) m
bit_sum-two bytes k t n m small next is =
    sum_by-two (byte_bit bytes) k (k + 1) refl
    ∙ ap₂ (λ (x y : ℕ). x + y) (byte_bit-at bytes k t n (omega arith) is) (byte_bit-at bytes (k + 1) t m small (omega arith))

-- a coefficient by four bits of a byte
pub cbd_coefficient-narrow : (bytes : List ℕ) (i t first x : ℕ) → first ≤ 4 → 4 * i ≡ 8 * t + first
    → x ≡ minus 3329 (bit_at (get_or bytes t 0) first + bit_at (get_or bytes t 0) (first + 1))
    (bit_at (get_or bytes t 0) (first + 2) + bit_at (get_or bytes t 0) (first + 3))
    → x ≡ cbd_coefficient 2 bytes i
cbd_coefficient-narrow bytes i t first x low is value =
    value ∙ sym (ap₂ (minus 3329)
    (bit_sum-two bytes (2 * 2 * i) t first (first + 1) (omega arith) refl (omega arith))
    (bit_sum-two bytes (2 * 2 * i + 2) t (first + 2) (first + 3) (omega arith) (omega arith) (omega arith)))

below-next : (k n : ℕ) → k < n + 1 → k ≢ n → k < n
below-next k n before other = omega arith

-- one coefficient more
get_or-one_more : (p : ℕ → ℕ) (n x : ℕ) (out : List ℕ) → n < length out → x ≡ p n → ((k : ℕ) → k < n → get_or out k 0 ≡ p k)
    → (k : ℕ) → k < n + 1 → get_or (set out n x) k 0 ≡ p k
get_or-one_more p n x out inside is before k below = elim (cases_eq k n) [
  | inl here ↦ get_or-set_at out n k x 0 here inside ∙ is ∙ ap p (sym here)
  | inr other ↦ get_or-set_other out n k x 0 other ∙ before k (below-next k n below other)
]

-- two coefficients more
pub get_or-two_more : (p : ℕ → ℕ) (t x y : ℕ) (out : List ℕ) → 2 * t + 1 < length out → x ≡ p (2 * t) → y ≡ p (2 * t + 1)
    → ((k : ℕ) → k < 2 * t → get_or out k 0 ≡ p k) → (k : ℕ) → k < 2 * (t + 1) → get_or (set (set out (2 * t) x) (2 * t + 1) y) k 0 ≡ p k
get_or-two_more p t x y out inside first second before k below =
    get_or-one_more p (2 * t + 1) y (set out (2 * t) x) (omega (arith, inside, length-set out (2 * t) x)) second
    (get_or-one_more p (2 * t) x out (omega arith) first before) k (omega arith)
