-- Bytes as groups of five bits and back, and groups as bytes and back.
use Rattle.std.proofs.Common.{◌≡◌, ℕ, zero, suc, ◌+◌, ◌-◌, ◌*◌, ◌/◌, ◌%◌, ◌^◌, ◌<◌, ◌≤◌, List, [], ◌∷◌, ◌++◌, length, All, refl, sym, ap, subst, ◌∙◌, arith}
use Rattle.std.specs.List.{fold}
use Rattle.std.proofs.Math.Nat.{pow-suc, pow-succ', pow-zero, div-one, div-div-eq-div-mul}
use Rattle.std.proofs.lemmas.List.Elements.{All-head, All-tail}
use Rattle.std.proofs.lemmas.Nat.{pow-add, pow_pos, div-mul-add, mod-mul-add, mod_below, shl_below, shr_below, shl-shr, shr_split}
use Rattle.bech32_long.specs.Groups.{number_of, digits_of, group_count, groups, byte_count, leftover_count, leftover, whole_bytes}
use Rattle.bech32_long.proofs.DigitLemmas.{length-digits_of, number_of-digits_of}

pow_32 : (n : ℕ) → 32 ^ n ≡ 2 ^ (5 * n)
pow_32 zero = refl
pow_32 (suc n) =
    let turned : 5 * n + 5 ≡ 5 * suc n = omega arith in
    pow-suc 32 n ∙ ap (λ (k : ℕ). k * 32) (pow_32 n) ∙ sym (pow-add 2 (5 * n) 5) ∙ ap (λ (k : ℕ). 2 ^ k) turned

pow_256 : (n : ℕ) → 256 ^ n ≡ 2 ^ (8 * n)
pow_256 zero = refl
pow_256 (suc n) =
    let turned : 8 * n + 8 ≡ 8 * suc n = omega arith in
    pow-suc 256 n ∙ ap (λ (k : ℕ). k * 256) (pow_256 n) ∙ sym (pow-add 2 (8 * n) 8) ∙ ap (λ (k : ℕ). 2 ^ k) turned

-- the highest digit first
digits_of-cons : (base n x : ℕ) → digits_of base (suc n) x ≡ x / base ^ n % base ∷ digits_of base n x
unfolding digits_of
digits_of-cons base zero x =
    let same : x ≡ x / base ^ 0 = sym (ap (λ (k : ℕ). x / k) (pow-zero base) ∙ div-one x) in
    ap (λ (y : ℕ). y % base ∷ []) same
digits_of-cons base (suc n) x =
    let high : x / base / base ^ n ≡ x / base ^ suc n = div-div-eq-div-mul x base (base ^ n) ∙ ap (λ (k : ℕ). x / k) (sym (pow-succ' base n)) in
    ap (λ (xs : List ℕ). xs ++ x % base ∷ []) (digits_of-cons base n (x / base))
    ∙ ap (λ (y : ℕ). y % base ∷ (digits_of base n (x / base) ++ x % base ∷ [])) high

-- a number that goes on with more digits
abbrev goes_on : ℕ → ℕ → List ℕ → ℕ
goes_on base a digits = fold (λ n d. n * base + d) a digits

goes_on-div : (base a : ℕ) (ds : List ℕ) → All (λ d. d < base) ds → goes_on base a ds / base ^ length ds ≡ a
goes_on-div base a [] h = ap (λ (k : ℕ). a / k) (pow-zero base) ∙ div-one a
goes_on-div base a (d ∷ ds) h =
    let more : ℕ = a * base + d in
    ap (λ (k : ℕ). goes_on base more ds / k) (pow-suc base (length ds))
    ∙ sym (div-div-eq-div-mul (goes_on base more ds) (base ^ length ds) base)
    ∙ ap (λ (k : ℕ). k / base) (goes_on-div base more ds (All-tail (λ (x : ℕ). x < base) d ds h))
    ∙ div-mul-add a base d (All-head (λ (x : ℕ). x < base) d ds h)

digits_of-goes_on : (base a : ℕ) (ds : List ℕ) → All (λ d. d < base) ds → digits_of base (length ds) (goes_on base a ds) ≡ ds
unfolding digits_of
digits_of-goes_on base a [] h = refl
digits_of-goes_on base a (d ∷ ds) h =
    let more : ℕ = a * base + d in
    let rest : All (λ x. x < base) ds = All-tail (λ (x : ℕ). x < base) d ds h in
    let first : goes_on base more ds / base ^ length ds % base ≡ d =
    ap (λ (k : ℕ). k % base) (goes_on-div base more ds rest) ∙ mod-mul-add a base d (All-head (λ (x : ℕ). x < base) d ds h) in
    digits_of-cons base (length ds) (goes_on base more ds)
    ∙ ap (λ (k : ℕ). k ∷ digits_of base (length ds) (goes_on base more ds)) first
    ∙ ap (λ (xs : List ℕ). d ∷ xs) (digits_of-goes_on base more ds rest)

pub digits_of-number_of : (base : ℕ) (ds : List ℕ) → All (λ d. d < base) ds → digits_of base (length ds) (number_of base ds) ≡ ds
unfolding number_of
digits_of-number_of base ds h = digits_of-goes_on base 0 ds h

number_of-div : (base : ℕ) (ds : List ℕ) → All (λ d. d < base) ds → number_of base ds / base ^ length ds ≡ 0
unfolding number_of
number_of-div base ds h = goes_on-div base 0 ds h

below-from_div : (x k : ℕ) → x / 2 ^ k ≡ 0 → x < 2 ^ k
below-from_div x k e =
    let split : 0 * 2 ^ k + x % 2 ^ k ≡ x = (rw e at (shr_split x k)) in
    let rest : x % 2 ^ k < 2 ^ k = mod_below x (2 ^ k) (pow_pos k) in
    omega (arith, split, rest)

pub number_of-256-lt : (ds : List ℕ) → All (λ d. d < 256) ds → number_of 256 ds < 2 ^ (8 * length ds)
number_of-256-lt ds h = below-from_div (number_of 256 ds) (8 * length ds) (ap (λ (k : ℕ). number_of 256 ds / k) (sym (pow_256 (length ds))) ∙ number_of-div 256 ds h)

pub number_of-32-lt : (ds : List ℕ) → All (λ d. d < 32) ds → number_of 32 ds < 2 ^ (5 * length ds)
number_of-32-lt ds h = below-from_div (number_of 32 ds) (5 * length ds) (ap (λ (k : ℕ). number_of 32 ds / k) (sym (pow_32 (length ds))) ∙ number_of-div 32 ds h)

-- ---- bytes as groups and back

-- the whole bytes of k groups that are this number
abbrev joined : ℕ → ℕ → List ℕ
joined k number = digits_of 256 (byte_count k) (number / 2 ^ (5 * k - 8 * byte_count k))

pub whole_bytes-groups : (bytes : List ℕ) → All (λ b. b < 256) bytes → whole_bytes (groups bytes) ≡ bytes
unfolding groups whole_bytes
whole_bytes-groups bytes h =
    let m : ℕ = length bytes in
    let n : ℕ = group_count m in
    let fill : ℕ = 5 * n - 8 * m in
    let number : ℕ = number_of 256 bytes in
    let whole : ℕ = number * 2 ^ fill in
    let below : whole < 32 ^ n =
    let power : 8 * m + fill ≡ 5 * n = omega arith in
    let shifted : number * 2 ^ fill < 2 ^ (8 * m + fill) = shl_below number (8 * m) fill (number_of-256-lt bytes h) in
    subst (λ (k : ℕ). whole < k) (sym (pow_32 n)) (subst (λ (k : ℕ). whole < 2 ^ k) power shifted) in
    let count : byte_count n ≡ m = omega arith in
    ap (λ (k : ℕ). joined k (number_of 32 (digits_of 32 n whole))) (length-digits_of 32 n whole)
    ∙ ap (joined n) (number_of-digits_of 32 n whole (omega arith) below)
    ∙ ap (λ (b : ℕ). digits_of 256 b (whole / 2 ^ (5 * n - 8 * b))) count
    ∙ ap (digits_of 256 m) (shl-shr number fill)
    ∙ digits_of-number_of 256 bytes h

-- ---- groups as bytes and back

pub groups-whole_bytes : (values : List ℕ) → All (λ v. v < 32) values → leftover_count values < 5 → leftover values ≡ 0 → groups (whole_bytes values) ≡ values
unfolding groups whole_bytes
groups-whole_bytes values h few unset =
    let k : ℕ = length values in
    let m : ℕ = byte_count k in
    let rest : ℕ = 5 * k - 8 * m in
    let number : ℕ = number_of 32 values in
    let high : ℕ = number / 2 ^ rest in
    let less : 5 * k - 8 * m < 5 = few in
    let below : high < 256 ^ m =
    let power : 8 * m + rest ≡ 5 * k = omega arith in
    let small : number < 2 ^ (8 * m + rest) = rw power (number_of-32-lt values h) in
    rw (pow_256 m) (shr_below number (8 * m) rest small) in
    let count : group_count m ≡ k = omega arith in
    let back : number / 2 ^ rest * 2 ^ rest ≡ number =
    let split : number / 2 ^ rest * 2 ^ rest + number % 2 ^ rest ≡ number = shr_split number rest in
    let none : number % 2 ^ rest ≡ 0 = unset in
    omega (arith, split, none) in
    ap (λ (b : ℕ). digits_of 32 (group_count b) (number_of 256 (digits_of 256 m high) * 2 ^ (5 * group_count b - 8 * b))) (length-digits_of 256 m high)
    ∙ ap (λ (x : ℕ). digits_of 32 (group_count m) (x * 2 ^ (5 * group_count m - 8 * m))) (number_of-digits_of 256 m high (omega arith) below)
    ∙ ap (λ (n : ℕ). digits_of 32 n (high * 2 ^ (5 * n - 8 * m))) count
    ∙ ap (digits_of 32 k) back
    ∙ digits_of-number_of 32 values h
