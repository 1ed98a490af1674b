-- The powers of the roots h(i).
use Rattle.std.proofs.Common.{◌≡◌, ℕ, ◌+◌, ◌*◌, ◌/◌, ◌%◌, ◌^◌, ◌<◌, map, refl, subst, sym, ap, ◌∙◌, arith}
use Rattle.std.specs.Prelude.{if◌then◌else◌, ◌==◌}
use Rattle.std.specs.List.{range_with_len}
use Rattle.std.proofs.Math.Nat.{div-add-mod, mod-lt, mod-mod}
use Rattle.std.proofs.lemmas.Nat.{pow-add, pow-mod}
use Rattle.lattice_transform.proofs.Powers.{one-pow, pow-pow, power-mod}
use Rattle.lattice_transform.proofs.Sums.{over, times-mod}
use Rattle.lattice_transform.proofs.Tables.{from_table}
use Rattle.dsa_ring.specs.Transform.{bit_rev8, root}
use Rattle.dsa_ring.proofs.Geometric.{doubled, doubled-mod, over-powers}

-- ---- bits in reverse order

bits_back : map (λ i. bit_rev8 (bit_rev8 i)) (range_with_len 0 256) ≡ map (λ i. i) (range_with_len 0 256)
bits_back = refl

pub bit_rev8-bit_rev8 : (i : ℕ) → i < 256 → bit_rev8 (bit_rev8 i) ≡ i
bit_rev8-bit_rev8 i inside = from_table (λ i. bit_rev8 (bit_rev8 i)) (λ i. i) 0 256 i bits_back (omega arith) (omega arith)

bits_small : map (λ i. bit_rev8 i % 256) (range_with_len 0 256) ≡ map bit_rev8 (range_with_len 0 256)
bits_small = refl

pub bit_rev8-below : (i : ℕ) → i < 256 → bit_rev8 i < 256
bit_rev8-below i inside =
    subst (λ x. x < 256) (from_table (λ i. bit_rev8 i % 256) bit_rev8 0 256 i bits_small (omega arith) (omega arith)) (mod-lt (bit_rev8 i) (omega arith))

-- ---- powers of 1753

turns-once : (c : ℕ) → (1753 ^ 512) ^ c % 8380417 ≡ 1 % 8380417
turns-once c = power-mod 8380417 (1753 ^ 512) 1 c refl ∙ ap (λ x. x % 8380417) (one-pow c)

-- its 512th power is 1
pub power-turns : (a c : ℕ) → 1753 ^ (a + 512 * c) % 8380417 ≡ 1753 ^ a % 8380417
power-turns a c =
    let alone : 1753 ^ a * 1 ≡ 1753 ^ a = omega arith in
    ap (λ x. x % 8380417) (pow-add 1753 a (512 * c) ∙ ap (λ x. 1753 ^ a * x) (sym (pow-pow 1753 512 c)))
    ∙ times-mod 8380417 (1753 ^ a) (1753 ^ a) ((1753 ^ 512) ^ c) 1 refl (turns-once c)
    ∙ ap (λ x. x % 8380417) alone

pub root-power : (i e : ℕ) → root i ^ e % 8380417 ≡ 1753 ^ ((2 * bit_rev8 i + 1) * e) % 8380417
unfolding root
root-power i e = pow-mod (1753 ^ (2 * bit_rev8 i + 1)) e 8380417 ∙ ap (λ x. x % 8380417) (pow-pow 1753 (2 * bit_rev8 i + 1) e)

-- h(i)^256 is -1
powers_256 : map (λ i. root i ^ 256 % 8380417) (range_with_len 0 256) ≡ map (λ i. 8380416) (range_with_len 0 256)
unfolding root
powers_256 = refl

pub power_256 : (i : ℕ) → i < 256 → root i ^ 256 % 8380417 ≡ 8380416
power_256 i inside = from_table (λ i. root i ^ 256 % 8380417) (λ i. 8380416) 0 256 i powers_256 (omega arith) (omega arith)

-- ---- sums of powers of a 256th root of 1

-- 256 for 1 itself, else 0
sums : map (λ n. doubled 8 (1753 ^ (2 * n) % 8380417) % 8380417) (range_with_len 0 256) ≡ map (λ n. if n == 0 then 256 else 0) (range_with_len 0 256)
sums = refl

-- 1753^(2·n), for an n up to 256 and past it
whole-turns : (n : ℕ) → 1753 ^ (2 * n) % 8380417 ≡ 1753 ^ (2 * (n % 256)) % 8380417
whole-turns n =
    let parts : 256 * (n / 256) + n % 256 ≡ n = div-add-mod n 256 in
    let exponent : 2 * n ≡ 2 * (n % 256) + 512 * (n / 256) = omega arith in
    ap (λ (e : ℕ). 1753 ^ e % 8380417) exponent ∙ power-turns (2 * (n % 256)) (n / 256)

pub power_sum : (n : ℕ) → over 0 256 (λ j. (1753 ^ (2 * n)) ^ j) % 8380417 ≡ (if n % 256 == 0 then 256 else 0) % 8380417
power_sum n =
    let small : n % 256 < 256 = mod-lt n (omega arith) in
    let total : ℕ = over 0 256 (λ j. (1753 ^ (2 * n)) ^ j) in
    sym (mod-mod total 8380417)
    ∙ ap (λ x. x % 8380417)
    (ap (λ x. x % 8380417) (over-powers 8 (1753 ^ (2 * n)))
    ∙ doubled-mod 8380417 8 (1753 ^ (2 * n)) (1753 ^ (2 * (n % 256)) % 8380417)
    (whole-turns n ∙ sym (mod-mod (1753 ^ (2 * (n % 256))) 8380417))
    ∙ from_table (λ n. doubled 8 (1753 ^ (2 * n) % 8380417) % 8380417) (λ n. if n == 0 then 256 else 0) 0 256 (n % 256) sums (omega arith) (omega arith))
