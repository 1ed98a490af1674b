-- Single bits of packed and unpacked numbers.
use Rattle.std.proofs.Common.{◌≡◌, ℕ, zero, suc, ◌+◌, ◌*◌, ◌/◌, ◌%◌, ◌^◌, ◌<◌, ◌≤◌, List, [], ◌∷◌, length, take, get_or, slice_index, All, flat_map, sym, ap, ◌∙◌, arith, length-take-le, mul-le-mul_left}
use Rattle.std.specs.Int.{bit_at}
use Rattle.std.proofs.lemmas.List.Concat.{get_or-flat_map}
use Rattle.std.proofs.lemmas.List.Elements.{All-head, All-tail}
use Rattle.std.proofs.lemmas.Nat.{shr-shr, shr_split}
use Rattle.std.proofs.lemmas.Nat.Bits.{bit_at-suc, bit_at-zero, bit_at_cat_low}
use Rattle.module_lattice.specs.Bits.{bits_of, bits_of_each, byte_bit, number_of}
use Rattle.module_lattice.specs.Groups.{groups, ungroup}
use Rattle.module_lattice.proofs.BitLists.{All-bits_of_each, length-bits_of, length-bits_of_each}
use Rattle.module_lattice.proofs.Regrouping.{get_or-regroup, regroup}

-- ---- the bits of numbers

get_or-bits_of : (d x j : ℕ) → j < d → get_or (bits_of d x) j 0 ≡ bit_at x j
unfolding bits_of
get_or-bits_of zero x j lt = absurd (omega arith)
get_or-bits_of (suc d) x zero lt = omega arith
get_or-bits_of (suc d) x (suc j) lt = get_or-bits_of d (x / 2) j (omega arith) ∙ sym (bit_at-suc x j)

get_or-bits_of_each : (d : ℕ) (xs : List ℕ) (i j : ℕ) → i < length xs → j < d → get_or (bits_of_each d xs) (d * i + j) 0 ≡ bit_at (slice_index xs i) j
unfolding bits_of_each
get_or-bits_of_each d xs i j li lj =
    let x : ℕ = slice_index xs i in
    let before : length (flat_map (bits_of d) (take i xs)) ≡ d * i = length-bits_of_each d (take i xs) ∙ ap (λ (k : ℕ). d * k) (length-take-le i xs (omega arith)) in
    ap (λ (k : ℕ). get_or (flat_map (bits_of d) xs) (k + j) 0) (sym before)
    ∙ get_or-flat_map (bits_of d) xs i j 0 0 li (omega (arith, length-bits_of d x))
    ∙ get_or-bits_of d x j lj

-- bit k, of bytes
get_or-bytes : (bytes : List ℕ) (k : ℕ) → k < 8 * length bytes → get_or (bits_of_each 8 bytes) k 0 ≡ byte_bit bytes k
get_or-bytes bytes k lt =
    let place : k ≡ 8 * (k / 8) + k % 8 = omega arith in
    ap (λ (m : ℕ). get_or (bits_of_each 8 bytes) m 0) place ∙ get_or-bits_of_each 8 bytes (k / 8) (k % 8) (omega arith) (omega arith)

-- ---- the bits of a number

bit_at-number_of : (bits : List ℕ) (k : ℕ) → All (λ b. b < 2) bits → bit_at (number_of bits) k ≡ get_or bits k 0
unfolding number_of
bit_at-number_of [] k each = bit_at-zero k
bit_at-number_of (b ∷ bits) zero each = omega (arith, All-head (λ x. x < 2) b bits each)
bit_at-number_of (b ∷ bits) (suc k) each =
    let half : (b + 2 * number_of bits) / 2 ≡ number_of bits = omega (arith, All-head (λ x. x < 2) b bits each) in
    bit_at-suc (b + 2 * number_of bits) k
    ∙ ap (λ (x : ℕ). bit_at x k) half
    ∙ bit_at-number_of bits k (All-tail (λ x. x < 2) b bits each)

bit_at-field : (x k d j : ℕ) → j < d → bit_at (x / 2 ^ k % 2 ^ d) j ≡ bit_at x (k + j)
bit_at-field x k d j lt =
    let y : ℕ = x / 2 ^ k in
    sym (bit_at_cat_low (y / 2 ^ d) d (y % 2 ^ d) j lt) ∙ ap (λ (z : ℕ). bit_at z j) (shr_split y d) ∙ ap (λ (z : ℕ). z % 2) (shr-shr x k j)

-- ---- the bits of packed and unpacked numbers

bit_at-regroup : (d w n : ℕ) (xs : List ℕ) (i j : ℕ) → 1 ≤ w → d * length xs ≡ w * n → i < n → j < w
    → bit_at (slice_index (regroup d w xs) i) j ≡ get_or (bits_of_each d xs) (w * i + j) 0
bit_at-regroup d w n xs i j positive whole li lj =
    let bits : List ℕ = bits_of_each d xs in
    ap (λ (x : ℕ). bit_at x j) (get_or-regroup d w n xs i positive whole li)
    ∙ bit_at-field (number_of bits) (w * i) w j lj
    ∙ bit_at-number_of bits (w * i + j) (All-bits_of_each d xs)

pub byte_bit-groups : (d n : ℕ) (values : List ℕ) (i j : ℕ) → d * length values ≡ 8 * n → i < length values → j < d
    → byte_bit (groups d values) (d * i + j) ≡ bit_at (slice_index values i) j
unfolding groups
byte_bit-groups d n values i j whole li lj =
    let k : ℕ = d * i + j in
    let within : d * i + d ≤ d * length values = omega (arith, mul-le-mul_left d li) in
    let place : 8 * (k / 8) + k % 8 ≡ k = omega arith in
    bit_at-regroup d 8 n values (k / 8) (k % 8) (omega arith) whole (omega arith) (omega arith)
    ∙ ap (λ (m : ℕ). get_or (bits_of_each d values) m 0) place
    ∙ get_or-bits_of_each d values i j li lj

pub bit_at-ungroup : (d n : ℕ) (bytes : List ℕ) (i j : ℕ) → 1 ≤ d → 8 * length bytes ≡ d * n → i < n → j < d
    → bit_at (slice_index (ungroup d bytes) i) j ≡ byte_bit bytes (d * i + j)
unfolding ungroup
bit_at-ungroup d n bytes i j positive whole li lj =
    let within : d * i + d ≤ d * n = omega (arith, mul-le-mul_left d li) in
    bit_at-regroup 8 d n bytes i j positive whole li lj ∙ get_or-bytes bytes (d * i + j) (omega arith)
