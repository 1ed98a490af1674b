-- High and low parts make up the number, and how large they are.
use Rattle.std.proofs.Common.{◌≡◌, ℕ, ◌+◌, ◌-◌, ◌*◌, ◌/◌, ◌%◌, ◌<◌, ◌≤◌, Bool, true, false, subst, sym, ap, ap₂, ◌∙◌, ◌⊎◌, inl, inr, arith}
use Rattle.std.specs.Prelude.{if◌then◌else◌, ℤ, pos, negsuc, ◌+ℤ◌, ◌-ℤ◌, ◌≤ℤ◌, unsigned_abs, int_lt}
use Rattle.std.proofs.Math.Nat.{mod-eq_of_lt, mod-lt, mod_self, mul-div_cancel}
use Rattle.std.proofs.lemmas.Bool.{cases_Bool, cases_eq}
use Rattle.std.proofs.lemmas.Int.{ints}
use Rattle.dsa_ring.specs.declared.rounding.Gamma2.{Gamma2}
use Rattle.dsa_ring.specs.Rounding.{gamma2, high_bits, high_count, low_bits, power2round_high, power2round_low, use_hint}
use Rattle.dsa_ring.proofs.Near.{IsNear, all_parts, centered-near, high-near, low-near, near-of, near_count, positive_count, positive_gamma, quotient-less, quotient-same, without-near}

-- ---- Power2Round

near_step : (r : ℕ) → IsNear 4096 r ((r + 4095) / 8192) ((r + 4095) % 8192)
near_step r = near-of 4096 r (omega arith)

high-step : (r : ℕ) → power2round_high r ≡ (r + 4095) / 8192
high-step r =
    ap (λ (n : ℕ). n / 8192) (without-near 4096 r ((r + 4095) / 8192) ((r + 4095) % 8192) (omega arith) (near_step r))
    ∙ mul-div_cancel ((r + 4095) / 8192) (omega arith)

low-step : (r : ℕ) → power2round_low r ≡ pos r -ℤ pos ((r + 4095) / 8192 * 8192)
low-step r = centered-near 4096 r ((r + 4095) / 8192) ((r + 4095) % 8192) (omega arith) (near_step r)

made-up : (r n : ℕ) → pos r ≡ pos n +ℤ (pos r -ℤ pos n)
made-up r n = omega (arith, ints)

pub power2round-total : (r : ℕ) → pos r ≡ pos (power2round_high r * 8192) +ℤ power2round_low r
power2round-total r =
    made-up r ((r + 4095) / 8192 * 8192)
    ∙ sym (ap₂ (λ (n : ℕ) (z : ℤ). pos (n * 8192) +ℤ z) (high-step r) (low-step r))

pub power2round_high-below : (r : ℕ) → r < 8380417 → power2round_high r < 1024
power2round_high-below r inside = subst (λ x. x < 1024) (sym (high-step r)) (omega arith)

at_least : (r k v : ℕ) → IsNear 4096 r k v → negsuc 4094 ≤ℤ (pos r -ℤ pos (k * 8192))
at_least r k v near = let total : r + 4096 ≡ k * 8192 + v + 1 = near.total in omega (arith, ints)

at_most : (r k v : ℕ) → IsNear 4096 r k v → (pos r -ℤ pos (k * 8192)) ≤ℤ pos 4096
at_most r k v near =
    let total : r + 4096 ≡ k * 8192 + v + 1 = near.total in
    let small : v < 8192 = near.small in
    omega (arith, ints)

pub power2round_low-least : (r : ℕ) → negsuc 4094 ≤ℤ power2round_low r
power2round_low-least r = subst (λ z. negsuc 4094 ≤ℤ z) (sym (low-step r)) (at_least r ((r + 4095) / 8192) ((r + 4095) % 8192) (near_step r))

pub power2round_low-most : (r : ℕ) → power2round_low r ≤ℤ pos 4096
power2round_low-most r = subst (λ z. z ≤ℤ pos 4096) (sym (low-step r)) (at_most r ((r + 4095) / 8192) ((r + 4095) % 8192) (near_step r))

-- ---- Decompose

mod-count : (gamma : Gamma2) (n : ℕ) → n % high_count gamma < high_count gamma
mod-count gamma n = mod-lt n (let two : 2 ≤ high_count gamma = positive_count gamma in omega arith)

pub high_bits-below : (gamma : Gamma2) (r : ℕ) → r < 8380417 → high_bits gamma r < high_count gamma
high_bits-below gamma r inside =
    let g : ℕ = gamma2 gamma in
    let k : ℕ = (r + (g - 1)) / (2 * g) in
    subst (λ x. x < high_count gamma)
    (sym (high-near gamma r k ((r + (g - 1)) % (2 * g)) inside (near-of g r (positive_gamma gamma))))
    (mod-count gamma k)

magnitude : (r n g : ℕ) → r ≤ n + g → n ≤ r + g → unsigned_abs (pos r -ℤ pos n) ≤ g
magnitude r n g above below = grind (arith, ints)

near-within : (gamma : Gamma2) (r k v : ℕ) → r < 8380417 → IsNear (gamma2 gamma) r k v
    → k * (2 * gamma2 gamma) + k / high_count gamma ≤ r + gamma2 gamma
near-within gamma r k v inside near =
    let g : ℕ = gamma2 gamma in
    let m : ℕ = high_count gamma in
    let total : r + g ≡ k * (2 * g) + v + 1 = near.total in
    elim (cases_eq k m) [
      | inl last ↦
          let one : k / m ≡ 1 = quotient-same k m (let two : 2 ≤ m = positive_count gamma in omega arith) last in
          omega arith
      | inr other ↦
          let low : k < m = let most : k ≤ m = near_count gamma r k v inside near in omega (arith, other) in
          let none : k / m ≡ 0 = quotient-less k m low in
          omega arith
    ]

pub low_bits-within : (gamma : Gamma2) (r : ℕ) → r < 8380417 → unsigned_abs (low_bits gamma r) ≤ gamma2 gamma
low_bits-within gamma r inside =
    let g : ℕ = gamma2 gamma in
    let k : ℕ = (r + (g - 1)) / (2 * g) in
    let v : ℕ = (r + (g - 1)) % (2 * g) in
    let n : ℕ = k * (2 * g) + k / high_count gamma in
    let near : IsNear g r k v = near-of g r (positive_gamma gamma) in
    let total : r + g ≡ k * (2 * g) + v + 1 = near.total in
    let small : v < 2 * g = near.small in
    let below : n ≤ r + g = near-within gamma r k v inside near in
    subst (λ z. unsigned_abs z ≤ g) (sym (low-near gamma r k v inside near)) (magnitude r n g (omega arith) below)

-- ---- UseHint

hinted-below : (gamma : Gamma2) (r : ℕ) → use_hint gamma true r < high_count gamma
hinted-below gamma r =
    let h : ℕ = high_bits gamma r in
    let m : ℕ = high_count gamma in
    let up : ℕ = (h + 1) % m in
    let down : ℕ = (h + (m - 1)) % m in
    elim (cases_Bool (int_lt (pos 0) (low_bits gamma r))) [
      | inl above ↦ subst (λ x. x < m) (sym (ap (λ t. if t then up else down) above)) (mod-count gamma (h + 1))
      | inr below ↦ subst (λ x. x < m) (sym (ap (λ t. if t then up else down) below)) (mod-count gamma (h + (m - 1)))
    ]

pub use_hint-below : (gamma : Gamma2) (hint : Bool) (r : ℕ) → r < 8380417 → use_hint gamma hint r < high_count gamma
use_hint-below gamma false r inside = high_bits-below gamma r inside
use_hint-below gamma true r inside = hinted-below gamma r

-- ---- the number again

last-place : (g k m : ℕ) → k ≡ m → m * (2 * g) ≡ 8380416 → k / m ≡ 1 → k * (2 * g) + k / m ≡ 8380417
last-place g k m last whole one =
    let same : k * (2 * g) ≡ m * (2 * g) = ap (λ (k : ℕ). k * (2 * g)) last in
    omega arith

first-places : (g k m : ℕ) → k / m ≡ 0 → k * (2 * g) + k / m ≡ k * (2 * g)
first-places g k m none = omega arith

pub decompose-total : (gamma : Gamma2) (r : ℕ) → r < 8380417
    → (pos r ≡ pos (high_bits gamma r * (2 * gamma2 gamma)) +ℤ low_bits gamma r) ⊎ ((high_bits gamma r ≡ 0) × (pos r ≡ pos 8380417 +ℤ low_bits gamma r))
decompose-total gamma r inside =
    let g : ℕ = gamma2 gamma in
    let m : ℕ = high_count gamma in
    let k : ℕ = (r + (g - 1)) / (2 * g) in
    let v : ℕ = (r + (g - 1)) % (2 * g) in
    let near : IsNear g r k v = near-of g r (positive_gamma gamma) in
    let high : high_bits gamma r ≡ k % m = high-near gamma r k v inside near in
    let low : low_bits gamma r ≡ pos r -ℤ pos (k * (2 * g) + k / m) = low-near gamma r k v inside near in
    elim (cases_eq k m) [
      | inl last ↦
          let one : k / m ≡ 1 = quotient-same k m (let two : 2 ≤ m = positive_count gamma in omega arith) last in
          let place : k * (2 * g) + k / m ≡ 8380417 = last-place g k m last (all_parts gamma) one in
          inr (
            high ∙ ap (λ (k : ℕ). k % m) last ∙ mod_self m,
            made-up r 8380417 ∙ ap (λ (z : ℤ). pos 8380417 +ℤ z) (sym (low ∙ ap (λ (n : ℕ). pos r -ℤ pos n) place)),
          )
      | inr other ↦
          let less : k < m = let most : k ≤ m = near_count gamma r k v inside near in omega (arith, other) in
          let place : k * (2 * g) + k / m ≡ k * (2 * g) = first-places g k m (quotient-less k m less) in
          inl (
          made-up r (k * (2 * g))
          ∙ sym (ap₂ (λ (n : ℕ) (z : ℤ). pos (n * (2 * g)) +ℤ z) (high ∙ mod-eq_of_lt less) (low ∙ ap (λ (n : ℕ). pos r -ℤ pos n) place)))
    ]
