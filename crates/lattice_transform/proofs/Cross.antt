-- The powers of one root by those of the inverse of another.
use Rattle.std.proofs.Common.{◌≡◌, ◌≢◌, ℕ, ◌+◌, ◌-◌, ◌*◌, ◌%◌, ◌^◌, ◌<◌, ◌≤◌, refl, sym, ap, ◌∙◌, inl, inr, arith}
use Rattle.std.specs.Prelude.{◌==◌, if◌then◌else◌}
use Rattle.std.proofs.Math.Nat.{mod-lt, mod-mod, mul_assoc, mul_left_comm}
use Rattle.std.proofs.lemmas.Bool.{cases_eq, eq-eqb, ne_eqb}
use Rattle.std.proofs.lemmas.Nat.{mul-pow, pow-add, pow-mod}
use Rattle.module_lattice.specs.Pairs.{bit_rev7, gamma}
use Rattle.lattice_transform.proofs.Powers.{one-pow, pow-one, pow-pow, power-mod}
use Rattle.lattice_transform.proofs.Roots.{power_128, root_sum-at, same_root}
use Rattle.lattice_transform.proofs.Sums.{over, over-mod, times-mod}
use Rattle.lattice_transform.proofs.Undo.{unit, unit-other, unit-same}

-- g^256 is 1
pub power_256 : (i : ℕ) → i < 128 → gamma i ^ 256 % 3329 ≡ 1
power_256 i inside = ap (λ x. x % 3329) (sym (pow-pow (gamma i) 128 2)) ∙ power-mod 3329 (gamma i ^ 128) 3328 2 (power_128 i inside)

-- g^(255·j) is g^(-j)
minus-power : (i j : ℕ) → i < 128 → j ≤ 256 → gamma i ^ (255 * j) % 3329 ≡ gamma i ^ (256 - j) % 3329
minus-power i j inside low =
    let g : ℕ = gamma i in
    let exponent : 255 * j + 256 ≡ 256 * j + (256 - j) = omega arith in
    let alone : g ^ (255 * j) * 1 ≡ g ^ (255 * j) = omega arith in
    let alone2 : 1 * g ^ (256 - j) ≡ g ^ (256 - j) = omega arith in
    let whole : (g ^ 256) ^ j % 3329 ≡ 1 % 3329 = power-mod 3329 (g ^ 256) 1 j (power_256 i inside) ∙ ap (λ x. x % 3329) (one-pow j) in
    ap (λ x. x % 3329) (sym alone)
    ∙ sym (times-mod 3329 (g ^ (255 * j)) (g ^ (255 * j)) (g ^ 256) 1 refl (power_256 i inside))
    ∙ ap (λ x. x % 3329)
    (sym (pow-add g (255 * j) 256) ∙ ap (λ (k : ℕ). g ^ k) exponent ∙ pow-add g (256 * j) (256 - j)
    ∙ ap (λ x. x * g ^ (256 - j)) (sym (pow-pow g 256 j)))
    ∙ times-mod 3329 ((g ^ 256) ^ j) 1 (g ^ (256 - j)) (g ^ (256 - j)) whole refl
    ∙ ap (λ x. x % 3329) alone2

-- g(i)/g(k)
ratio : ℕ → ℕ → ℕ
ratio i k = gamma i * gamma k ^ 255 % 3329

ratio-root : (i k : ℕ) → i < 128 → k < 128 → ratio i k ^ 128 % 3329 ≡ 1
unfolding ratio
ratio-root i k inside inside2 =
    let g : ℕ = gamma k in
    let turned : (g ^ 255) ^ 128 ≡ (g ^ 128) ^ 255 = pow-pow g 255 128 ∙ sym (pow-pow g 128 255) in
    pow-mod (gamma i * g ^ 255) 128 3329
    ∙ ap (λ x. x % 3329) (mul-pow (gamma i) (g ^ 255) 128 ∙ ap (λ x. gamma i ^ 128 * x) turned)
    ∙ times-mod 3329 (gamma i ^ 128) 3328 ((g ^ 128) ^ 255) (3328 ^ 255) (power_128 i inside) (power-mod 3329 (g ^ 128) 3328 255 (power_128 k inside2))

ratio-same : (i : ℕ) → i < 128 → ratio i i ≡ 1
unfolding ratio
ratio-same i inside =
    let g : ℕ = gamma i in
    let one : g ^ 1 ≡ g = pow-one g in
    ap (λ x. x % 3329) (ap (λ x. x * g ^ 255) (sym one) ∙ sym (pow-add g 1 255)) ∙ power_256 i inside

gamma-small : (i : ℕ) → gamma i % 3329 ≡ gamma i
unfolding gamma
gamma-small i = mod-mod (17 ^ (2 * bit_rev7 i + 1)) 3329

ratio-one : (i k : ℕ) → i < 128 → k < 128 → ratio i k ≡ 1 → i ≡ k
unfolding ratio
ratio-one i k inside inside2 is =
    let g : ℕ = gamma k in
    let one : g ^ 1 ≡ g = pow-one g in
    let alone : gamma i * 1 ≡ gamma i = omega arith in
    let alone2 : 1 * g ≡ g = omega arith in
    let split : g ^ 256 ≡ g ^ 255 * g = pow-add g 255 1 ∙ ap (λ x. g ^ 255 * x) one in
    let same : gamma i % 3329 ≡ g % 3329 =
    ap (λ x. x % 3329) (sym alone)
    ∙ sym (times-mod 3329 (gamma i) (gamma i) (g ^ 256) 1 refl (power_256 k inside2))
    ∙ ap (λ x. x % 3329) (ap (λ x. gamma i * x) split ∙ sym (mul_assoc (gamma i) (g ^ 255) g))
    ∙ times-mod 3329 (gamma i * g ^ 255) 1 g g is refl
    ∙ ap (λ x. x % 3329) alone2 in
    same_root i k inside inside2 (sym (gamma-small i) ∙ same ∙ gamma-small k)

-- one product of powers, as a power of the ratio
term : (i k j : ℕ) → k < 128 → j ≤ 256 → gamma i ^ j * (3303 * gamma k ^ (256 - j)) % 3329 ≡ 3303 * ratio i k ^ j % 3329
unfolding ratio
term i k j inside low =
    let g : ℕ = gamma k in
    ap (λ x. x % 3329) (mul_left_comm (gamma i ^ j) 3303 (g ^ (256 - j)))
    ∙ times-mod 3329 3303 3303 (gamma i ^ j * g ^ (256 - j)) (ratio i k ^ j) refl
    (times-mod 3329 (gamma i ^ j) (gamma i ^ j) (g ^ (256 - j)) ((g ^ 255) ^ j) refl
    (sym (ap (λ x. x % 3329) (pow-pow g 255 j) ∙ minus-power k j inside low))
    ∙ ap (λ x. x % 3329) (sym (mul-pow (gamma i) (g ^ 255) j))
    ∙ sym (pow-mod (gamma i * g ^ 255) j 3329))

tested-same : (r i k : ℕ) → r ≡ 1 → k ≡ i → (if r == 1 then 1 else 0) ≡ unit i k % 3329
tested-same r i k one is = ap (λ t. if t then 1 else 0) (eq-eqb r 1 one) ∙ sym (ap (λ x. x % 3329) (unit-same i k is))

tested-other : (r i k : ℕ) → r ≢ 1 → k ≢ i → (if r == 1 then 1 else 0) ≡ unit i k % 3329
tested-other r i k other apart = ap (λ t. if t then 1 else 0) (ne_eqb r 1 other) ∙ sym (ap (λ x. x % 3329) (unit-other i k apart))

ratio-unit : (i k : ℕ) → i < 128 → k < 128 → (if ratio i k == 1 then 1 else 0) ≡ unit i k % 3329
ratio-unit i k inside inside2 = elim (cases_eq k i) [
  | inl is ↦ tested-same (ratio i k) i k (ap (λ (k : ℕ). ratio i k) is ∙ ratio-same i inside) is
  | inr apart ↦ tested-other (ratio i k) i k (λ one. apart (sym (ratio-one i k inside inside2 one))) apart
]

ratio-small : (i k : ℕ) → ratio i k < 3329
unfolding ratio
ratio-small i k = mod-lt (gamma i * gamma k ^ 255) (omega arith)

pub crossed : (i k : ℕ) → i < 128 → k < 128 → over 0 128 (λ j. gamma i ^ j * (3303 * gamma k ^ (256 - j))) % 3329 ≡ unit i k % 3329
crossed i k inside inside2 =
    over-mod 3329 0 128 (λ j. gamma i ^ j * (3303 * gamma k ^ (256 - j))) (λ j. 3303 * ratio i k ^ j) (λ j low high. term i k j inside2 (omega arith))
    ∙ root_sum-at (ratio i k) (ratio-small i k) (ratio-root i k inside inside2)
    ∙ ratio-unit i k inside inside2
