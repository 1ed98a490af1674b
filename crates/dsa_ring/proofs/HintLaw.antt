-- A hint recovers the high part.
use Rattle.std.proofs.Common.{◌≡◌, ◌≢◌, ℕ, zero, suc, ◌+◌, ◌-◌, ◌*◌, ◌/◌, ◌%◌, ◌<◌, ◌≤◌, true, false, sym, ap, ◌∙◌, ◌⊎◌, inl, inr, arith}
use Rattle.std.specs.Prelude.{◌==◌, not, if◌then◌else◌, ℤ, pos, negsuc, ◌-ℤ◌, unsigned_abs, int_lt}
use Rattle.std.proofs.Math.Nat.{add-mul-mod_self_left, mod-eq_of_lt, mod-lt, mod_self}
use Rattle.std.proofs.lemmas.Bool.{cases_eq, cases_lt, eq-eqb, ne_eqb}
use Rattle.std.proofs.lemmas.Int.{ints}
use Rattle.dsa_ring.specs.declared.rounding.Gamma2.{Gamma2}
use Rattle.dsa_ring.specs.declared.rounding.Gamma2.TheVariants.{Q88, Q32}
use Rattle.dsa_ring.specs.Rounding.{gamma2, high_bits, high_count, low_bits, make_hint, plus_signed, use_hint}
use Rattle.dsa_ring.proofs.Near.{IsNear, all_parts, high-near, low-near, near-of, near_count, one-near, positive_count, positive_gamma, quotient-less}

-- the high part of a number beside r: the same, or the next up where r is above its multiple, or the
-- next down where it isn't
data Goes (m g k v k2 : ℕ) : Type 0 where
  stays : k2 % m ≡ k % m → Goes m g k v k2
  rises : g < v + 1 → k2 % m ≡ (k % m + 1) % m → Goes m g k v k2
  falls : v + 1 ≤ g → k2 % m ≡ (k % m + (m - 1)) % m → Goes m g k v k2

-- r2 is n more or n less than r, modulo q
data Differs (r n r2 : ℕ) : Type 0 where
  more : r2 ≡ r + n → Differs r n r2
  over_end : r2 + 8380417 ≡ r + n → Differs r n r2
  less : 1 ≤ n → r2 + n ≡ r → Differs r n r2
  under_start : r < n → r2 + n ≡ r + 8380417 → Differs r n r2

-- ---- multiples beside each other, modulo m

zero-mod : (m : ℕ) → 2 ≤ m → 0 % m ≡ 0
zero-mod m two = mod-eq_of_lt (omega arith)

up : (k m : ℕ) → k < m → suc k % m ≡ (k % m + 1) % m
up k m low =
    let next : suc k ≡ k + 1 = omega arith in
    ap (λ (n : ℕ). n % m) next ∙ ap (λ (n : ℕ). (n + 1) % m) (sym (mod-eq_of_lt low))

down : (j m : ℕ) → 2 ≤ m → suc j ≤ m → j % m ≡ (suc j % m + (m - 1)) % m
down j m two most = elim (cases_eq (suc j) m) [
  | inl last ↦
      let before : j ≡ 0 + (m - 1) = omega (arith, last) in
      ap (λ (n : ℕ). n % m) before ∙ ap (λ (n : ℕ). (n + (m - 1)) % m) (sym (ap (λ (n : ℕ). n % m) last ∙ mod_self m))
  | inr other ↦
      let low : suc j < m = omega (arith, other) in
      let around : suc j + (m - 1) ≡ j + m * 1 = omega arith in
      sym (ap (λ (n : ℕ). (n + (m - 1)) % m) (mod-eq_of_lt low) ∙ ap (λ (n : ℕ). n % m) around ∙ add-mul-mod_self_left j m 1)
]

ends : (k k2 m : ℕ) → 2 ≤ m → (k ≡ 0) ⊎ (k ≡ m) → k % m ≡ 0
ends k k2 m two one = elim one [
  | inl is ↦ ap (λ (k : ℕ). k % m) is ∙ zero-mod m two
  | inr is ↦ ap (λ (k : ℕ). k % m) is ∙ mod_self m
]

-- ---- where r2 goes

module _ (g m : ℕ) (positive : 1 ≤ g) (two : 2 ≤ m) (whole : m * (2 * g) ≡ 8380416) where
  near-zero : (r : ℕ) → r < g → IsNear g r 0 (r + g - 1)
  near-zero r low = record { total = omega arith; small = omega arith }

  near-last : (r : ℕ) → r < 8380417 → 8380417 ≤ r + g → IsNear g r m (r + g - 8380417)
  near-last r inside high = record { total = omega arith; small = omega arith }

  goes-more : (r n r2 k v k2 v2 : ℕ) → n ≤ g → k2 ≤ m → IsNear g r k v → IsNear g r2 k2 v2 → r2 ≡ r + n → Goes m g k v k2
  goes-more r n r2 k v k2 v2 few most near near2 is =
      let total : r + g ≡ k * (2 * g) + v + 1 = near.total in
      let small : v < 2 * g = near.small in
      elim (cases_lt (v + n) (2 * g)) [
        | inl low ↦
            let here : IsNear g r2 k (v + n) = record { total = omega arith; small = low } in
            stays (ap (λ (k : ℕ). k % m) (one-near g r2 k2 v2 k (v + n) near2 here))
        | inr high ↦
            let split : suc k * (2 * g) ≡ k * (2 * g) + 2 * g = omega arith in
            let next : IsNear g r2 (suc k) (v + n - 2 * g) = record { total = omega arith; small = omega arith } in
            let there : k2 ≡ suc k = one-near g r2 k2 v2 (suc k) (v + n - 2 * g) near2 next in
            rises (omega arith) (ap (λ (k : ℕ). k % m) there ∙ up k m (omega arith))
      ]

  goes-less : (r n r2 k v k2 v2 : ℕ) → n ≤ g → 1 ≤ n → k ≤ m → IsNear g r k v → IsNear g r2 k2 v2 → r2 + n ≡ r → Goes m g k v k2
  goes-less r n r2 zero v k2 v2 few some most near near2 is =
      let total : r + g ≡ zero * (2 * g) + v + 1 = near.total in
      let small : v < 2 * g = near.small in
      let here : IsNear g r2 0 (v - n) = record { total = omega arith; small = omega arith } in
      stays (ap (λ (k : ℕ). k % m) (one-near g r2 k2 v2 0 (v - n) near2 here))
  goes-less r n r2 (suc j) v k2 v2 few some most near near2 is =
      let total : r + g ≡ suc j * (2 * g) + v + 1 = near.total in
      let split : suc j * (2 * g) ≡ j * (2 * g) + 2 * g = omega arith in
      let small : v < 2 * g = near.small in
      elim (cases_lt v n) [
        | inl low ↦
            let before : IsNear g r2 j (v + 2 * g - n) = record { total = omega arith; small = omega arith } in
            falls (omega arith) (ap (λ (k : ℕ). k % m) (one-near g r2 k2 v2 j (v + 2 * g - n) near2 before) ∙ down j m two most)
        | inr high ↦
            let here : IsNear g r2 (suc j) (v - n) = record { total = omega arith; small = omega arith } in
            stays (ap (λ (k : ℕ). k % m) (one-near g r2 k2 v2 (suc j) (v - n) near2 here))
      ]

  goes-over : (r n r2 k v k2 v2 : ℕ) → n ≤ g → r < 8380417 → IsNear g r k v → IsNear g r2 k2 v2 → r2 + 8380417 ≡ r + n → Goes m g k v k2
  goes-over r n r2 k v k2 v2 few inside near near2 is =
      let low : r2 < g = omega arith in
      let high : 8380417 ≤ r + g = omega arith in
      stays
      (ends k2 k m two (inl (one-near g r2 k2 v2 0 (r2 + g - 1) near2 (near-zero r2 low)))
      ∙ sym (ends k k2 m two (inr (one-near g r k v m (r + g - 8380417) near (near-last r inside high)))))

  goes-under : (r n r2 k v k2 v2 : ℕ) → n ≤ g → r < n → IsNear g r k v → IsNear g r2 k2 v2 → r2 + n ≡ r + 8380417 → Goes m g k v k2
  goes-under r n r2 k v k2 v2 few before near near2 is =
      let low : r < g = omega arith in
      let inside : r2 < 8380417 = omega arith in
      let high : 8380417 ≤ r2 + g = omega arith in
      stays
      (ends k2 k m two (inr (one-near g r2 k2 v2 m (r2 + g - 8380417) near2 (near-last r2 inside high)))
      ∙ sym (ends k k2 m two (inl (one-near g r k v 0 (r + g - 1) near (near-zero r low)))))

  goes : (r n r2 k v k2 v2 : ℕ) → n ≤ g → r < 8380417 → k ≤ m → k2 ≤ m → IsNear g r k v → IsNear g r2 k2 v2 → Differs r n r2 → Goes m g k v k2
  goes r n r2 k v k2 v2 few inside most most2 near near2 differs = elim differs [
    | more is ↦ goes-more r n r2 k v k2 v2 few most2 near near2 is
    | over_end is ↦ goes-over r n r2 k v k2 v2 few inside near near2 is
    | less some is ↦ goes-less r n r2 k v k2 v2 few some most near near2 is
    | under_start before is ↦ goes-under r n r2 k v k2 v2 few before near near2 is
  ]

-- ---- r + z

differs-signed : (r : ℕ) (z : ℤ) → r < 8380417 → unsigned_abs z ≤ 8380416 → Differs r (unsigned_abs z) (plus_signed r z)
differs-signed r (pos n) inside magnitude = elim (cases_lt (r + n) 8380417) [
  | inl low ↦ more (mod-eq_of_lt low)
  | inr high ↦ over_end (omega arith)
]
differs-signed r (negsuc n) inside magnitude = elim (cases_lt r (suc n)) [
  | inl low ↦ under_start low (let within : suc n ≤ 8380416 = magnitude in omega arith)
  | inr high ↦ less (omega arith) (let within : suc n ≤ 8380416 = magnitude in omega arith)
]

pub plus_signed-below : (r : ℕ) (z : ℤ) → plus_signed r z < 8380417
plus_signed-below r (pos n) = mod-lt (r + n) (omega arith)
plus_signed-below r (negsuc n) = mod-lt (r + (8380417 - suc n)) (omega arith)

-- ---- the sign of the low part

sign-above : (r n : ℕ) → n < r → int_lt (pos 0) (pos r -ℤ pos n) ≡ true
sign-above r n above = grind (arith, ints)

sign-below : (r n : ℕ) → r ≤ n → int_lt (pos 0) (pos r -ℤ pos n) ≡ false
sign-below r n below = grind (arith, ints)

-- above its multiple a number is not near the last
below-last : (g m r k v : ℕ) → m * (2 * g) ≡ 8380416 → r < 8380417 → k ≤ m → IsNear g r k v → g < v + 1 → k < m
below-last g m r k v whole inside most near high = elim (cases_eq k m) [
  | inl last ↦
      let total : r + g ≡ k * (2 * g) + v + 1 = near.total in
      let at_last : k * (2 * g) ≡ m * (2 * g) = ap (λ (k : ℕ). k * (2 * g)) last in
      absurd (omega arith)
  | inr other ↦ omega (arith, other)
]

low-above : (gamma : Gamma2) (r k v : ℕ) → r < 8380417 → IsNear (gamma2 gamma) r k v → gamma2 gamma < v + 1 → int_lt (pos 0) (low_bits gamma r) ≡ true
low-above gamma r k v inside near high =
    let g : ℕ = gamma2 gamma in
    let m : ℕ = high_count gamma in
    let low : k < m = below-last g m r k v (all_parts gamma) inside (near_count gamma r k v inside near) near high in
    let none : k / m ≡ 0 = quotient-less k m low in
    let total : r + g ≡ k * (2 * g) + v + 1 = near.total in
    ap (int_lt (pos 0)) (low-near gamma r k v inside near) ∙ sign-above r (k * (2 * g) + k / m) (omega arith)

low-below : (gamma : Gamma2) (r k v : ℕ) → r < 8380417 → IsNear (gamma2 gamma) r k v → v + 1 ≤ gamma2 gamma → int_lt (pos 0) (low_bits gamma r) ≡ false
low-below gamma r k v inside near low =
    let g : ℕ = gamma2 gamma in
    let m : ℕ = high_count gamma in
    let total : r + g ≡ k * (2 * g) + v + 1 = near.total in
    ap (int_lt (pos 0)) (low-near gamma r k v inside near) ∙ sign-below r (k * (2 * g) + k / m) (omega arith)

-- ---- the law

-- with a hint
hinted : (gamma : Gamma2) (r r2 k v k2 v2 : ℕ) → r < 8380417 → r2 < 8380417 → IsNear (gamma2 gamma) r k v → IsNear (gamma2 gamma) r2 k2 v2
    → high_bits gamma r ≢ high_bits gamma r2 → Goes (high_count gamma) (gamma2 gamma) k v k2 → use_hint gamma true r ≡ high_bits gamma r2
hinted gamma r r2 k v k2 v2 inside inside2 near near2 apart way =
    let m : ℕ = high_count gamma in
    let h : high_bits gamma r ≡ k % m = high-near gamma r k v inside near in
    let h2 : high_bits gamma r2 ≡ k2 % m = high-near gamma r2 k2 v2 inside2 near2 in
    let next : ℕ = (high_bits gamma r + 1) % m in
    let previous : ℕ = (high_bits gamma r + (m - 1)) % m in
    elim way [
      | stays same ↦ absurd (apart (h ∙ sym same ∙ sym h2))
      | rises high same ↦
          ap (λ t. if t then next else previous) (low-above gamma r k v inside near high)
          ∙ ap (λ (x : ℕ). (x + 1) % m) h ∙ sym same ∙ sym h2
      | falls low same ↦
          ap (λ t. if t then next else previous) (low-below gamma r k v inside near low)
          ∙ ap (λ (x : ℕ). (x + (m - 1)) % m) h ∙ sym same ∙ sym h2
    ]

recovered : (gamma : Gamma2) (r r2 k v k2 v2 : ℕ) → r < 8380417 → r2 < 8380417 → IsNear (gamma2 gamma) r k v → IsNear (gamma2 gamma) r2 k2 v2
    → Goes (high_count gamma) (gamma2 gamma) k v k2 → use_hint gamma (not (high_bits gamma r == high_bits gamma r2)) r ≡ high_bits gamma r2
recovered gamma r r2 k v k2 v2 inside inside2 near near2 way = elim (cases_eq (high_bits gamma r) (high_bits gamma r2)) [
  | inl same ↦ ap (λ t. use_hint gamma (not t) r) (eq-eqb (high_bits gamma r) (high_bits gamma r2) same) ∙ same
  | inr apart ↦
      ap (λ t. use_hint gamma (not t) r) (ne_eqb (high_bits gamma r) (high_bits gamma r2) apart)
      ∙ hinted gamma r r2 k v k2 v2 inside inside2 near near2 apart way
]

small_gamma : (gamma : Gamma2) → gamma2 gamma ≤ 8380416
small_gamma Q88 = omega arith
small_gamma Q32 = omega arith

pub use_hint-make_hint : (gamma : Gamma2) (r : ℕ) (z : ℤ) → r < 8380417 → unsigned_abs z ≤ gamma2 gamma
    → use_hint gamma (make_hint gamma z r) r ≡ high_bits gamma (plus_signed r z)
use_hint-make_hint gamma r z inside magnitude =
    let g : ℕ = gamma2 gamma in
    let m : ℕ = high_count gamma in
    let r2 : ℕ = plus_signed r z in
    let inside2 : r2 < 8380417 = plus_signed-below r z in
    let k : ℕ = (r + (g - 1)) / (2 * g) in
    let v : ℕ = (r + (g - 1)) % (2 * g) in
    let k2 : ℕ = (r2 + (g - 1)) / (2 * g) in
    let v2 : ℕ = (r2 + (g - 1)) % (2 * g) in
    let near : IsNear g r k v = near-of g r (positive_gamma gamma) in
    let near2 : IsNear g r2 k2 v2 = near-of g r2 (positive_gamma gamma) in
    let within : g ≤ 8380416 = small_gamma gamma in
    recovered gamma r r2 k v k2 v2 inside inside2 near near2
    (goes g m (positive_gamma gamma) (positive_count gamma) (all_parts gamma) r (unsigned_abs z) r2 k v k2 v2 magnitude inside
    (near_count gamma r k v inside near) (near_count gamma r2 k2 v2 inside2 near2) near near2
    (differs-signed r z inside (omega arith)))
