-- Numbers near multiples of 2·g: what Power2Round and Decompose make of them.
use Rattle.std.proofs.Common.{◌≡◌, ◌≢◌, ℕ, zero, suc, ◌+◌, ◌-◌, ◌*◌, ◌/◌, ◌%◌, ◌<◌, ◌≤◌, true, false, refl, sym, ap, ◌∙◌, inl, inr, arith, mul-le-mul_right}
use Rattle.std.specs.Prelude.{◌==◌, nat_le, if◌then◌else◌, ℤ, pos, ◌-ℤ◌, unsigned_abs}
use Rattle.std.proofs.Math.Nat.{div-add-mod', mod-eq_of_lt, mod-lt, mod_self, mul-div_cancel}
use Rattle.std.proofs.lemmas.Bool.{cases_eq, cases_lt, eq-eqb, le-leb, lt-leb, ne_eqb}
use Rattle.std.proofs.lemmas.Int.{ints}
use Rattle.std.proofs.lemmas.Nat.{mod-mul-add, same_from_place}
use Rattle.dsa_ring.specs.declared.rounding.Gamma2.{Gamma2}
use Rattle.dsa_ring.specs.declared.rounding.Gamma2.TheVariants.{Q88, Q32}
use Rattle.dsa_ring.specs.Rounding.{centered, gamma2, high_bits, high_count, is_last, low_bits, residue, without}

-- r is from k·(2·g) - g + 1 to k·(2·g) + g
pub record IsNear (g r k v : ℕ) : Type 0 where
  pub total : r + g ≡ k * (2 * g) + v + 1
  pub small : v < 2 * g

pub near-of : (g r : ℕ) → 1 ≤ g → IsNear g r ((r + (g - 1)) / (2 * g)) ((r + (g - 1)) % (2 * g))
near-of g r positive = record {
  total = let whole : (r + (g - 1)) / (2 * g) * (2 * g) + (r + (g - 1)) % (2 * g) ≡ r + (g - 1) = div-add-mod' (r + (g - 1)) (2 * g) in omega arith;
  small = mod-lt (r + (g - 1)) (omega arith);
}

pub one-near : (g r k v k2 v2 : ℕ) → IsNear g r k v → IsNear g r k2 v2 → k ≡ k2
one-near g r k v k2 v2 near near2 =
    let same : k * (2 * g) + v ≡ k2 * (2 * g) + v2 = omega (arith, near.total, near2.total) in
    (same_from_place k v k2 v2 (2 * g) near.small near2.small same).0

-- ---- the residue

centered-low : (a b r : ℕ) → r % a ≡ b → b ≤ a / 2 → centered a r ≡ pos b
centered-low a b r is low =
    ap (λ (x : ℕ). if nat_le x (a / 2) then pos x else pos x -ℤ pos a) is
    ∙ ap (λ t. if t then pos b else pos b -ℤ pos a) (le-leb b (a / 2) low)

centered-high : (a b r : ℕ) → r % a ≡ b → a / 2 < b → centered a r ≡ pos b -ℤ pos a
centered-high a b r is high =
    ap (λ (x : ℕ). if nat_le x (a / 2) then pos x else pos x -ℤ pos a) is
    ∙ ap (λ t. if t then pos b else pos b -ℤ pos a) (lt-leb b (a / 2) high)

half : (g : ℕ) → 2 * g / 2 ≡ g
half g = omega arith

-- a number at or above its multiple
above : (g r k b : ℕ) → 1 ≤ g → b ≤ g → r ≡ k * (2 * g) + b → centered (2 * g) r ≡ pos r -ℤ pos (k * (2 * g))
above g r k b positive low is =
    let halved : 2 * g / 2 ≡ g = half g in
    centered-low (2 * g) b r (ap (λ (r : ℕ). r % (2 * g)) is ∙ mod-mul-add k (2 * g) b (omega arith)) (omega arith)
    ∙ omega (arith, ints)

-- and below
below : (g r k b : ℕ) → b < 2 * g → g < b → r ≡ k * (2 * g) + b → centered (2 * g) r ≡ pos r -ℤ pos (suc k * (2 * g))
below g r k b small high is =
    let halved : 2 * g / 2 ≡ g = half g in
    let more : suc k * (2 * g) ≡ k * (2 * g) + 2 * g = omega arith in
    centered-high (2 * g) b r (ap (λ (r : ℕ). r % (2 * g)) is ∙ mod-mul-add k (2 * g) b small) (omega arith)
    ∙ omega (arith, ints)

pub centered-near : (g r k v : ℕ) → 1 ≤ g → IsNear g r k v → centered (2 * g) r ≡ pos r -ℤ pos (k * (2 * g))
centered-near g r zero v positive near =
    let total : r + g ≡ zero * (2 * g) + v + 1 = near.total in
    above g r zero r positive (let small : v < 2 * g = near.small in omega arith) (omega arith)
centered-near g r (suc k) v positive near =
    let total : r + g ≡ suc k * (2 * g) + v + 1 = near.total in
    let more : suc k * (2 * g) ≡ k * (2 * g) + 2 * g = omega arith in
    let small : v < 2 * g = near.small in
    elim (cases_lt (v + 1) g) [
      | inl low ↦ below g r k (g + v + 1) (omega arith) (omega arith) (omega arith)
      | inr high ↦ above g r (suc k) (v + 1 - g) positive (omega arith) (omega arith)
    ]

taken-back : (r n : ℕ) → pos r -ℤ (pos r -ℤ pos n) ≡ pos n
taken-back r n = omega (arith, ints)

pub without-near : (g r k v : ℕ) → 1 ≤ g → IsNear g r k v → without r (centered (2 * g) r) ≡ k * (2 * g)
without-near g r k v positive near =
    ap (λ (z : ℤ). unsigned_abs (pos r -ℤ z)) (centered-near g r k v positive near) ∙ ap unsigned_abs (taken-back r (k * (2 * g)))

-- ---- Decompose

pub positive_gamma : (gamma : Gamma2) → 1 ≤ gamma2 gamma
positive_gamma Q88 = omega arith
positive_gamma Q32 = omega arith

pub positive_count : (gamma : Gamma2) → 2 ≤ high_count gamma
positive_count Q88 = omega arith
positive_count Q32 = omega arith

-- m·(2·gamma2) is q - 1
pub all_parts : (gamma : Gamma2) → high_count gamma * (2 * gamma2 gamma) ≡ 8380416
all_parts Q88 = refl
all_parts Q32 = refl

multiple-below : (g r k v m : ℕ) → 1 ≤ g → m * (2 * g) ≡ 8380416 → r < 8380417 → IsNear g r k v → k ≤ m
multiple-below g r k v m positive whole inside near = elim (cases_lt m k) [
  | inl high ↦
      let much : suc m * (2 * g) ≤ k * (2 * g) = mul-le-mul_right (2 * g) high in
      let more : suc m * (2 * g) ≡ m * (2 * g) + 2 * g = omega arith in
      let total : r + g ≡ k * (2 * g) + v + 1 = near.total in
      absurd (omega arith)
  | inr low ↦ low
]

pub near_count : (gamma : Gamma2) (r k v : ℕ) → r < 8380417 → IsNear (gamma2 gamma) r k v → k ≤ high_count gamma
near_count gamma r k v inside near = multiple-below (gamma2 gamma) r k v (high_count gamma) (positive_gamma gamma) (all_parts gamma) inside near

last-near : (gamma : Gamma2) (r k v : ℕ) → IsNear (gamma2 gamma) r k v → is_last gamma r ≡ (k * (2 * gamma2 gamma) == 8380416)
last-near gamma r k v near = ap (λ (n : ℕ). n == 8380416) (without-near (gamma2 gamma) r k v (positive_gamma gamma) near)

is-last : (gamma : Gamma2) (r k v : ℕ) → IsNear (gamma2 gamma) r k v → k ≡ high_count gamma → is_last gamma r ≡ true
is-last gamma r k v near last =
    last-near gamma r k v near
    ∙ eq-eqb (k * (2 * gamma2 gamma)) 8380416 (ap (λ (k : ℕ). k * (2 * gamma2 gamma)) last ∙ all_parts gamma)

not-whole : (g k m : ℕ) → 1 ≤ g → m * (2 * g) ≡ 8380416 → k < m → k * (2 * g) ≢ 8380416
not-whole g k m positive whole low same =
    let much : suc k * (2 * g) ≤ m * (2 * g) = mul-le-mul_right (2 * g) low in
    let more : suc k * (2 * g) ≡ k * (2 * g) + 2 * g = omega arith in
    omega arith

not-last : (gamma : Gamma2) (r k v : ℕ) → IsNear (gamma2 gamma) r k v → k < high_count gamma → is_last gamma r ≡ false
not-last gamma r k v near low =
    last-near gamma r k v near
    ∙ ne_eqb (k * (2 * gamma2 gamma)) 8380416 (not-whole (gamma2 gamma) k (high_count gamma) (positive_gamma gamma) (all_parts gamma) low)

pub quotient-less : (k m : ℕ) → k < m → k / m ≡ 0
quotient-less k m low = grind arith

pub quotient-same : (k m : ℕ) → 1 ≤ m → k ≡ m → k / m ≡ 1
quotient-same k m positive same = grind arith

-- r1 and r0
pub high-near : (gamma : Gamma2) (r k v : ℕ) → r < 8380417 → IsNear (gamma2 gamma) r k v → high_bits gamma r ≡ k % high_count gamma
high-near gamma r k v inside near =
    let g : ℕ = gamma2 gamma in
    let m : ℕ = high_count gamma in
    let part : ℕ = without r (residue gamma r) / (2 * g) in
    elim (cases_eq k m) [
      | inl last ↦
          ap (λ t. if t then 0 else part) (is-last gamma r k v near last)
          ∙ sym (ap (λ (k : ℕ). k % m) last ∙ mod_self m)
      | inr other ↦
          let low : k < m = let most : k ≤ m = near_count gamma r k v inside near in omega (arith, other) in
          ap (λ t. if t then 0 else part) (not-last gamma r k v near low)
          ∙ ap (λ (n : ℕ). n / (2 * g)) (without-near g r k v (positive_gamma gamma) near)
          ∙ mul-div_cancel k (let some : 1 ≤ g = positive_gamma gamma in omega arith)
          ∙ sym (mod-eq_of_lt low)
    ]

one-less : (r n s : ℕ) → s ≡ 1 → pos r -ℤ pos n -ℤ pos 1 ≡ pos r -ℤ pos (n + s)
one-less r n s is = omega (arith, ints)

no-less : (r n s : ℕ) → s ≡ 0 → pos r -ℤ pos n ≡ pos r -ℤ pos (n + s)
no-less r n s is = omega (arith, ints)

pub low-near : (gamma : Gamma2) (r k v : ℕ) → r < 8380417 → IsNear (gamma2 gamma) r k v
    → low_bits gamma r ≡ pos r -ℤ pos (k * (2 * gamma2 gamma) + k / high_count gamma)
low-near gamma r k v inside near =
    let g : ℕ = gamma2 gamma in
    let m : ℕ = high_count gamma in
    let rest : residue gamma r ≡ pos r -ℤ pos (k * (2 * g)) = centered-near g r k v (positive_gamma gamma) near in
    elim (cases_eq k m) [
      | inl last ↦
          ap (λ t. if t then residue gamma r -ℤ pos 1 else residue gamma r) (is-last gamma r k v near last)
          ∙ ap (λ (z : ℤ). z -ℤ pos 1) rest
          ∙ one-less r (k * (2 * g)) (k / m) (quotient-same k m (let two : 2 ≤ m = positive_count gamma in omega arith) last)
      | inr other ↦
          let low : k < m = let most : k ≤ m = near_count gamma r k v inside near in omega (arith, other) in
          ap (λ t. if t then residue gamma r -ℤ pos 1 else residue gamma r) (not-last gamma r k v near low)
          ∙ rest
          ∙ no-less r (k * (2 * g)) (k / m) (quotient-less k m low)
    ]
