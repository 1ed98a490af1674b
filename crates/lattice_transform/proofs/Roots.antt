-- The powers of the roots g(i), by computation.
use Rattle.std.proofs.Common.{◌≡◌, ℕ, ◌*◌, ◌%◌, ◌^◌, ◌<◌, ◌≤◌, map, refl, sym, ap, ◌∙◌, arith}
use Rattle.std.specs.Prelude.{if◌then◌else◌, ◌==◌, position, unwrap_or}
use Rattle.std.specs.List.{range_with_len}
use Rattle.std.proofs.lemmas.Bool.{eq-eqb}
use Rattle.module_lattice.specs.Pairs.{gamma}
use Rattle.lattice_transform.proofs.Sums.{over}
use Rattle.lattice_transform.proofs.Tables.{from_table}

-- the sum of the e-th powers of all g(i)
abbrev pub power_sum : ℕ → ℕ
power_sum e = over 0 128 (λ i. gamma i ^ e)

power_sums : map (λ e. 3303 * power_sum e % 3329) (range_with_len 129 255) ≡ map (λ e. if e == 256 then 1 else 0) (range_with_len 129 255)
unfolding gamma
power_sums = refl

-- each of them is 0 but for the 256th powers, which are 1
pub power_sum-at : (e : ℕ) → 129 ≤ e → e < 384 → 3303 * power_sum e % 3329 ≡ (if e == 256 then 1 else 0)
power_sum-at e low high = from_table (λ e. 3303 * power_sum e % 3329) (λ e. if e == 256 then 1 else 0) 129 255 e power_sums low high

-- g(i)^128 is -1
powers_128 : map (λ i. gamma i ^ 128 % 3329) (range_with_len 0 128) ≡ map (λ i. 3328) (range_with_len 0 128)
unfolding gamma
powers_128 = refl

pub power_128 : (i : ℕ) → i < 128 → gamma i ^ 128 % 3329 ≡ 3328
power_128 i inside = from_table (λ i. gamma i ^ 128 % 3329) (λ i. 3328) 0 128 i powers_128 (omega arith) (omega arith)

-- the roots differ
place_of : ℕ → ℕ
unfolding gamma
place_of g = unwrap_or (position (λ x. x == g) (map gamma (range_with_len 0 128))) 0

places_of : map (λ i. place_of (gamma i)) (range_with_len 0 128) ≡ map (λ i. i) (range_with_len 0 128)
unfolding gamma place_of
places_of = refl

pub same_root : (i k : ℕ) → i < 128 → k < 128 → gamma i ≡ gamma k → i ≡ k
same_root i k inside inside2 same =
    sym (from_table (λ i. place_of (gamma i)) (λ i. i) 0 128 i places_of (omega arith) (omega arith))
    ∙ ap place_of same
    ∙ from_table (λ i. place_of (gamma i)) (λ i. i) 0 128 k places_of (omega arith) (omega arith)

-- of a 128th root of 1, the sum of the first 128 powers is 0, or 128 for 1 itself
abbrev root_sum : ℕ → ℕ
root_sum r = over 0 128 (λ j. 3303 * r ^ j) % 3329

abbrev tested : ℕ → ℕ
tested r = if r ^ 128 % 3329 == 1 then root_sum r else if r == 1 then 1 else 0

root_sums : map tested (range_with_len 0 3329) ≡ map (λ r. if r == 1 then 1 else 0) (range_with_len 0 3329)
root_sums = refl

pub root_sum-at : (r : ℕ) → r < 3329 → r ^ 128 % 3329 ≡ 1 → over 0 128 (λ j. 3303 * r ^ j) % 3329 ≡ (if r == 1 then 1 else 0)
root_sum-at r small root =
    sym (ap (λ t. if t then root_sum r else if r == 1 then 1 else 0) (eq-eqb (r ^ 128 % 3329) 1 root))
    ∙ from_table tested (λ r. if r == 1 then 1 else 0) 0 3329 r root_sums (omega arith) (omega arith)
