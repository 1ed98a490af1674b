-- Rounding.
use Rattle.std.proofs.Common.{◌≡◌, ℕ, zero, suc, ◌+◌, ◌*◌, ◌/◌, ◌^◌, ◌<◌, ◌≤◌, List, All, Bool, map, arith, true, refl, ◌∙◌, ap, get_or, lit<, add-one, inl, inr}
use Rattle.std.specs.Prelude.{◌==◌, ◌⊎◌, nat_le}
use Rattle.module_lattice.specs.Groups.{lcm}
use Rattle.std.specs.List.{list_all, range_with_len}
use Rattle.std.proofs.Math.Nat.{div-lt_iff_lt-mul, mod-lt, pow-le-pow_right, two-pow-succ}
use Rattle.std.proofs.lemmas.Bool.{and_parts, cases_eq, eqb-true, leb-true}
use Rattle.std.proofs.lemmas.List.Elements.{All-map, All-weaker}
use Rattle.std.proofs.lemmas.Nat.{pow_pos}
use Rattle.ml_kem.specs.Rounding.{compress, decompress}

All-all : (P : ℕ → Type 0) (xs : List ℕ) → ((x : ℕ) → P x) → All P xs
All-all P xs each = λ k d within. each (get_or xs k d)

-- what is compressed has d bits
pub compress-lt : (d x : ℕ) → compress d x < 2 ^ d
compress-lt d x = mod-lt ((2 ^ (d + 1) * x + 3329) / (2 * 3329)) (pow_pos d)

pub All-compressed : (d : ℕ) (xs : List ℕ) → All (λ x. x < 2 ^ d) (map (compress d) xs)
All-compressed d xs = All-map (λ x. x < 2 ^ d) (compress d) xs (All-all (λ x. compress d x < 2 ^ d) xs (compress-lt d))

pub All-compressed-below : (d : ℕ) (xs : List ℕ) → d ≤ 11 → All (λ x. x < 3329) (map (compress d) xs)
All-compressed-below d xs narrow =
    let most : 2 ^ d ≤ 2 ^ 11 = pow-le-pow_right (lit< tt) narrow in
    All-weaker (λ x. x < 2 ^ d) (λ x. x < 3329) (λ x within. omega arith) (map (compress d) xs) (All-compressed d xs)

-- what is decompressed is below q
pub decompress-lt : (d y : ℕ) → d ≤ 11 → y < 2 ^ d → decompress d y < 3329
decompress-lt d y narrow within =
    let most : 2 ^ d ≤ 2 ^ 11 = pow-le-pow_right (lit< tt) narrow in
    let twice : 2 ^ (d + 1) ≡ 2 ^ d + 2 ^ d = ap (λ (k : ℕ). 2 ^ k) (add-one d) ∙ two-pow-succ d in
    let some : 0 < 2 ^ (d + 1) = pow_pos (d + 1) in
    (div-lt_iff_lt-mul some).1 (omega arith)

pub All-decompressed : (d : ℕ) (xs : List ℕ) → d ≤ 11 → All (λ x. x < 2 ^ d) xs → All (λ x. x < 3329) (map (decompress d) xs)
All-decompressed d xs narrow each = All-map (λ x. x < 3329) (decompress d) xs (All-weaker (λ x. x < 2 ^ d) (λ x. decompress d x < 3329) (λ x within. decompress-lt d x narrow within) xs each)

-- each number of a range passes a test that the whole range passes
passes-range : (p : ℕ → Bool) (a n : ℕ) → list_all p (range_with_len a n) ≡ true → (k : ℕ) → a ≤ k → k < a + n → p k ≡ true
passes-range p a zero all k low high = absurd (omega arith)
passes-range p a (suc n) all k low high =
    let parts = and_parts (p a) (list_all p (range_with_len (a + 1) n)) (all) in
    elim (cases_eq k a) [
      | inl here ↦ ap p here ∙ parts.0
      | inr there ↦ passes-range p (a + 1) n parts.1 k (omega arith) (omega arith)
    ]

-- all widths and all numbers of each width
rounds_back : list_all (λ d. list_all (λ y. compress d (decompress d y) == y) (range_with_len 0 (2 ^ d))) (range_with_len 1 11) ≡ true
rounds_back = refl

pub compress-decompress : (d y : ℕ) → 1 ≤ d → d ≤ 11 → y < 2 ^ d → compress d (decompress d y) ≡ y
compress-decompress d y positive narrow within =
    let width = passes-range (λ d. list_all (λ y. compress d (decompress d y) == y) (range_with_len 0 (2 ^ d))) 1 11 rounds_back d positive (omega arith) in
    eqb-true (compress d (decompress d y)) y (passes-range (λ y. compress d (decompress d y) == y) 0 (2 ^ d) width y (omega arith) (omega arith))

-- numbers of d bits can be packed
pub record WidthFits (d : ℕ) : Type 0 where
  pub unit : lcm d 8 ≤ 128
  pub width : (2 ^ d ≤ 3329) ⊎ ((d ≡ 12) × (4096 ≤ 2 * 3329))

units_fit : list_all (λ d. nat_le (lcm d 8) 128) (range_with_len 1 11) ≡ true
units_fit = refl

pub width-fits : (d : ℕ) → 1 ≤ d → d ≤ 11 → WidthFits d
width-fits d positive narrow =
    let most : 2 ^ d ≤ 2 ^ 11 = pow-le-pow_right (lit< tt) narrow in
    record {
      unit = leb-true (lcm d 8) 128 (passes-range (λ d. nat_le (lcm d 8) 128) 1 11 units_fit d positive (omega arith));
      width = inl (omega arith);
    }
