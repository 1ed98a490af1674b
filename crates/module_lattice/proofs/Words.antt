-- The word that holds a unit: its bytes, and the numbers that are its digits.
use Rattle.std.proofs.Common.{◌≡◌, ℕ, zero, suc, ◌+◌, ◌*◌, ◌/◌, ◌%◌, ◌^◌, ◌<◌, ◌≤◌, List, [], ◌∷◌, length, take, get_or, map, All, refl, sym, ap, ◌∙◌, arith, length-take-le, get_or-take, pow-suc, pow-add, add-zero, append-nil, bit_or, mod-eq_of_lt, mul-le-mul_left}
use Rattle.std.specs.Int.{byte_at, bytes_low_first, to_le_bytes, w128}
use Rattle.std.specs.List.{range_with_len}
use Rattle.std.proofs.lemmas.Grind.{same_number_lists}
use Rattle.std.proofs.lemmas.List.{take_more}
use Rattle.std.proofs.lemmas.List.Elements.{All-get_or}
use Rattle.std.proofs.lemmas.List.FromFn.{fill_by_all}
use Rattle.std.proofs.lemmas.Nat.{shl_whole}
use lib.Bits.{or_shifted_r}
use Rattle.module_lattice.specs.Bits.{bits_of, bits_of_each, number_of}
use Rattle.module_lattice.specs.Groups.{groups, ungroup}
use Rattle.module_lattice.proofs.BitLists.{All-bits_of_each, bits_of_each-append, length-bits_of_each, number_of-append, number_of-bits_of, number_of-lt}
use Rattle.module_lattice.proofs.Regrouping.{get_or-regroup, length-regroup}

-- ---- numbers into a word

-- one more number, as the highest digit
number_of-one : (d x : ℕ) → x < 2 ^ d → number_of (bits_of_each d (x ∷ [])) ≡ x
unfolding bits_of_each
number_of-one d x lt = ap number_of (append-nil (bits_of d x)) ∙ number_of-bits_of d x ∙ mod-eq_of_lt lt

number_of-more : (d i : ℕ) (xs : List ℕ) → i < length xs → All (λ x. x < 2 ^ d) xs
    → number_of (bits_of_each d (take (i + 1) xs)) ≡ number_of (bits_of_each d (take i xs)) + 2 ^ (d * i) * get_or xs i 0
number_of-more d i xs lt each =
    let x : ℕ = get_or xs i 0 in
    let below : List ℕ = bits_of_each d (take i xs) in
    let width : length below ≡ d * i = length-bits_of_each d (take i xs) ∙ ap (λ (k : ℕ). d * k) (length-take-le i xs (omega arith)) in
    ap (λ (ys : List ℕ). number_of (bits_of_each d ys)) (take_more xs i 0 lt)
    ∙ ap number_of (bits_of_each-append d (take i xs) (x ∷ []))
    ∙ number_of-append below (bits_of_each d (x ∷ []))
    ∙ ap (λ (k : ℕ). number_of below + 2 ^ k * number_of (bits_of_each d (x ∷ []))) width
    ∙ ap (λ (k : ℕ). number_of below + 2 ^ (d * i) * k) (number_of-one d x (All-get_or (λ y. y < 2 ^ d) xs i 0 lt each))

-- the same, as the code adds it
pub number_of-or : (d i unit : ℕ) (xs : List ℕ) → i < length xs → All (λ x. x < 2 ^ d) xs → d * length xs ≤ 128 → unit ≡ number_of (bits_of_each d (take i xs))
    → bit_or unit (get_or xs i 0 * 2 ^ (d * i) % 2 ^ 128) ≡ number_of (bits_of_each d (take (i + 1) xs))
number_of-or d i unit xs lt each fits is =
    let x : ℕ = get_or xs i 0 in
    let below : List ℕ = bits_of_each d (take i xs) in
    let width : length below ≡ d * i = length-bits_of_each d (take i xs) ∙ ap (λ (k : ℕ). d * k) (length-take-le i xs (omega arith)) in
    let low : number_of below < 2 ^ (d * i) = rw width at (number_of-lt below (All-bits_of_each d (take i xs))) in
    let room : d + d * i ≤ 128 = omega (arith, mul-le-mul_left d lt) in
    ap (λ (u : ℕ). bit_or u (x * 2 ^ (d * i) % 2 ^ 128)) is
    ∙ ap (bit_or (number_of below)) (shl_whole x d (d * i) 128 (All-get_or (λ y. y < 2 ^ d) xs i 0 lt each) room)
    ∙ or_shifted_r x (d * i) (number_of below) low
    ∙ omega (arith, number_of-more d i xs lt each)

-- ---- a word into bytes

pow-256 : (i : ℕ) → 256 ^ i ≡ 2 ^ (8 * i)
pow-256 zero = refl
pow-256 (suc i) =
    let place : 8 * i + 8 ≡ 8 * suc i = omega arith in
    pow-suc 256 i ∙ ap (λ (p : ℕ). p * 256) (pow-256 i) ∙ sym (pow-add 2 (8 * i) 8) ∙ ap (λ (k : ℕ). 2 ^ k) place

byte_at-is : (i x : ℕ) → byte_at i x ≡ x / 2 ^ (8 * i) % 2 ^ 8
byte_at-is zero x = omega arith
byte_at-is (suc i) x = ap (λ (p : ℕ). x / p % 256) (pow-256 (suc i))

get_or-bytes_low_first : (i k x j : ℕ) → j < k → get_or (bytes_low_first i k x) j 0 ≡ byte_at (i + j) x
get_or-bytes_low_first i zero x j lt = absurd (omega arith)
get_or-bytes_low_first i (suc k) x zero lt = ap (λ (n : ℕ). byte_at n x) (sym (add-zero i))
get_or-bytes_low_first i (suc k) x (suc j) lt =
    let place : suc i + j ≡ i + suc j = omega arith in
    get_or-bytes_low_first (suc i) k x j (omega arith) ∙ ap (λ (n : ℕ). byte_at n x) place

-- the first bytes of the word
pub groups-word : (d n : ℕ) (values : List ℕ) → d * length values ≡ 8 * n → n ≤ 16 → take n (to_le_bytes w128 (number_of (bits_of_each d values))) ≡ groups d values
unfolding groups
groups-word d n values whole fits =
    let all : ℕ = number_of (bits_of_each d values) in
    let word : List ℕ = bytes_low_first 0 16 all in
    let len : length (take n word) ≡ n = length-take-le n word fits in
    same_number_lists (take n word) (groups d values) (len ∙ sym (length-regroup d 8 n values (omega arith) whole)) (λ k lt.
    let within : k < n = omega arith in
    let place : 0 + k ≡ k = omega arith in
    get_or-take n word k 0 within
    ∙ get_or-bytes_low_first 0 16 all k (omega arith)
    ∙ ap (λ (i : ℕ). byte_at i all) place
    ∙ byte_at-is k all
    ∙ sym (get_or-regroup d 8 n values k (omega arith) whole within))

-- ---- a word into numbers

pub ungroup-word : (d n : ℕ) (bytes : List ℕ) → 1 ≤ d → 8 * length bytes ≡ d * n
    → ungroup d bytes ≡ map (λ j. number_of (bits_of_each 8 bytes) / 2 ^ (d * j) % 2 ^ d) (range_with_len 0 n)
unfolding ungroup
ungroup-word d n bytes positive whole =
    fill_by_all (λ j. number_of (bits_of_each 8 bytes) / 2 ^ (d * j) % 2 ^ d) (ungroup d bytes) n 0 (length-regroup 8 d n bytes positive whole) (λ k lt.
    get_or-regroup 8 d n bytes k positive whole lt)
