-- High and low parts of a number modulo q = 8380417, and hints (FIPS 204, section 7.4).
use Rattle.std.specs.Prelude.{ℕ, suc, ◌+◌, ◌-◌, ◌*◌, ◌/◌, ◌%◌, ◌==◌, Bool, true, false, not, nat_le, if◌then◌else◌, ℤ, pos, negsuc, ◌-ℤ◌, unsigned_abs, int_lt}
use Rattle.dsa_ring.specs.declared.rounding.Gamma2.{Gamma2}
use Rattle.dsa_ring.specs.declared.rounding.Gamma2.TheVariants.{Q88, Q32}

-- r mod± a, for an even a: r modulo a, taken from 1 - a/2 to a/2 (section 2.3)
abbrev pub centered : ℕ → ℕ → ℤ
centered a r = if nat_le (r % a) (a / 2) then pos (r % a) else pos (r % a) -ℤ pos a

-- r - r0, for an r0 that is at most r
abbrev pub without : ℕ → ℤ → ℕ
without r r0 = unsigned_abs (pos r -ℤ r0)

-- ---- Power2Round (algorithm 35), with d = 13

-- r0: r mod± 2^13
abbrev pub power2round_low : ℕ → ℤ
power2round_low r = centered 8192 r

-- r1 = (r - r0)/2^13
abbrev pub power2round_high : ℕ → ℕ
power2round_high r = without r (power2round_low r) / 8192

-- ---- Decompose, HighBits and LowBits (algorithms 36, 37 and 38)

-- gamma2: (q - 1)/88 or (q - 1)/32 (section 4, table 1)
abbrev pub gamma2 : Gamma2 → ℕ
gamma2 Q88 = 95232
gamma2 Q32 = 261888

-- m = (q - 1)/(2·gamma2), the number of high parts
abbrev pub high_count : Gamma2 → ℕ
high_count Q88 = 44
high_count Q32 = 16

-- r mod± 2·gamma2
abbrev pub residue : Gamma2 → ℕ → ℤ
residue gamma r = centered (2 * gamma2 gamma) r

-- r less that residue is q - 1, which counts as -1
abbrev pub is_last : Gamma2 → ℕ → Bool
is_last gamma r = without r (residue gamma r) == 8380416

-- r1 of Decompose
abbrev pub high_bits : Gamma2 → ℕ → ℕ
high_bits gamma r = if is_last gamma r then 0 else without r (residue gamma r) / (2 * gamma2 gamma)

-- r0 of Decompose
abbrev pub low_bits : Gamma2 → ℕ → ℤ
low_bits gamma r = if is_last gamma r then residue gamma r -ℤ pos 1 else residue gamma r

-- ---- MakeHint and UseHint (algorithms 39 and 40)

-- r + z modulo q, for a z of magnitude at most q
abbrev pub plus_signed : ℕ → ℤ → ℕ
plus_signed r (pos n) = (r + n) % 8380417
plus_signed r (negsuc n) = (r + (8380417 - suc n)) % 8380417

-- the high parts of r and of r + z differ
abbrev pub make_hint : Gamma2 → ℤ → ℕ → Bool
make_hint gamma z r = not (high_bits gamma r == high_bits gamma (plus_signed r z))

-- without a hint the high part of r; with one the next, up where the low part is above 0 and down
-- otherwise, modulo m
abbrev pub use_hint : Gamma2 → Bool → ℕ → ℕ
use_hint gamma false r = high_bits gamma r
use_hint gamma true r = if int_lt (pos 0) (low_bits gamma r) then (high_bits gamma r + 1) % high_count gamma
    else (high_bits gamma r + (high_count gamma - 1)) % high_count gamma
