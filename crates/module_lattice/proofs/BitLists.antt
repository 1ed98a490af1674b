-- Lists of bits, and the numbers that they make.
use Rattle.std.proofs.Common.{◌≡◌, ℕ, zero, suc, ◌+◌, ◌*◌, ◌/◌, ◌%◌, ◌^◌, ◌<◌, ◌≤◌, List, [], ◌∷◌, ◌++◌, length, take, drop, get_or, All, flat_map, refl, sym, ap, ◌∙◌, arith, take_at, drop_at, take-append-drop, length-append, length-drop, length-take-le, pow-suc, add-one, zero-add, suc-add, mod-eq_of_lt, mul-le-mul_left, length-take, pow_mono}
use Rattle.std.proofs.lemmas.List.{drop-append-le, drop-drop, take-append-le}
use Rattle.std.proofs.lemmas.List.Concat.{flat_map-append}
use Rattle.std.proofs.lemmas.List.Elements.{All-append, All-cons, All-drop, All-head, All-nil, All-tail, All-take}
use Rattle.std.proofs.lemmas.Nat.{mod-pow-add, mod_low, shr_high}
use Rattle.module_lattice.specs.Bits.{bits_of, bits_of_each, number_of, numbers_in}

-- ---- the bits of one number

pub length-bits_of : (d x : ℕ) → length (bits_of d x) ≡ d
unfolding bits_of
length-bits_of zero x = refl
length-bits_of (suc d) x = ap suc (length-bits_of d (x / 2))

All-bits_of : (d x : ℕ) → All (λ b. b < 2) (bits_of d x)
unfolding bits_of
All-bits_of zero x = All-nil (λ b. b < 2)
All-bits_of (suc d) x = All-cons (λ b. b < 2) (x % 2) (bits_of d (x / 2)) (omega arith) (All-bits_of d (x / 2))

pub number_of-append : (xs ys : List ℕ) → number_of (xs ++ ys) ≡ number_of xs + 2 ^ length xs * number_of ys
unfolding number_of
number_of-append [] ys = omega arith
number_of-append (b ∷ xs) ys =
    omega (arith, number_of-append xs ys, ap (λ (p : ℕ). p * number_of ys) (pow-suc 2 (length xs)))

pub number_of-lt : (bits : List ℕ) → All (λ b. b < 2) bits → number_of bits < 2 ^ length bits
unfolding number_of
number_of-lt [] each = omega arith
number_of-lt (b ∷ bits) each =
    omega (arith, All-head (λ b. b < 2) b bits each, number_of-lt bits (All-tail (λ b. b < 2) b bits each), pow-suc 2 (length bits))

pub number_of-bits_of : (d x : ℕ) → number_of (bits_of d x) ≡ x % 2 ^ d
unfolding bits_of number_of
number_of-bits_of zero x = omega arith
number_of-bits_of (suc d) x = omega (arith, number_of-bits_of d (x / 2), rw add-one at (mod-pow-add x d 1))

bits_of-number_of : (bits : List ℕ) (d : ℕ) → All (λ b. b < 2) bits → length bits ≡ d → bits_of d (number_of bits) ≡ bits
unfolding bits_of number_of
bits_of-number_of [] zero each len = refl
bits_of-number_of [] (suc d) each len = absurd (omega arith)
bits_of-number_of (b ∷ bits) zero each len = absurd (omega arith)
bits_of-number_of (b ∷ bits) (suc d) each len =
    let bit : b < 2 = All-head (λ b. b < 2) b bits each in
    let low : (b + 2 * number_of bits) % 2 ≡ b = omega arith in
    let high : (b + 2 * number_of bits) / 2 ≡ number_of bits = omega arith in
    let rest : bits_of d (number_of bits) ≡ bits = bits_of-number_of bits d (All-tail (λ b. b < 2) b bits each) (omega arith) in
    ap (λ (x : ℕ). x ∷ bits_of d ((b + 2 * number_of bits) / 2)) low ∙ ap (λ (x : ℕ). b ∷ bits_of d x) high ∙ ap (λ (x : List ℕ). b ∷ x) rest

-- ---- the bits of many numbers

pub length-bits_of_each : (d : ℕ) (xs : List ℕ) → length (bits_of_each d xs) ≡ d * length xs
unfolding bits_of_each
length-bits_of_each d [] = omega arith
length-bits_of_each d (x ∷ xs) =
    length-append (bits_of d x) (flat_map (bits_of d) xs) ∙ omega (arith, length-bits_of d x, length-bits_of_each d xs)

pub All-bits_of_each : (d : ℕ) (xs : List ℕ) → All (λ b. b < 2) (bits_of_each d xs)
unfolding bits_of_each
All-bits_of_each d [] = All-nil (λ b. b < 2)
All-bits_of_each d (x ∷ xs) = All-append (λ b. b < 2) (bits_of d x) (flat_map (bits_of d) xs) (All-bits_of d x) (All-bits_of_each d xs)

pub bits_of_each-append : (d : ℕ) (xs ys : List ℕ) → bits_of_each d (xs ++ ys) ≡ bits_of_each d xs ++ bits_of_each d ys
unfolding bits_of_each
bits_of_each-append d xs ys = flat_map-append (bits_of d) xs ys

-- ---- the numbers of many bits

pub length-numbers_in : (d n : ℕ) (bits : List ℕ) → length (numbers_in d n bits) ≡ n
unfolding numbers_in
length-numbers_in d zero bits = refl
length-numbers_in d (suc n) bits = ap suc (length-numbers_in d n (drop d bits))

pub All-numbers_in : (d n : ℕ) (bits : List ℕ) → All (λ b. b < 2) bits → All (λ x. x < 2 ^ d) (numbers_in d n bits)
unfolding numbers_in
All-numbers_in d zero bits each = All-nil (λ x. x < 2 ^ d)
All-numbers_in d (suc n) bits each =
    let fits : length (take d bits) ≤ d = omega (arith, length-take d bits) in
    let below : number_of (take d bits) < 2 ^ length (take d bits) = number_of-lt (take d bits) (All-take (λ b. b < 2) d bits each) in
    let power : 2 ^ length (take d bits) ≤ 2 ^ d = pow_mono fits in
    All-cons (λ x. x < 2 ^ d) (number_of (take d bits)) (numbers_in d n (drop d bits)) (omega arith)
    (All-numbers_in d n (drop d bits) (All-drop (λ b. b < 2) d bits each))

pub numbers_in-append : (d m n : ℕ) (xs ys : List ℕ) → length xs ≡ d * m → numbers_in d (m + n) (xs ++ ys) ≡ numbers_in d m xs ++ numbers_in d n ys
unfolding numbers_in
numbers_in-append d zero n [] ys len = ap (λ (k : ℕ). numbers_in d k ys) (zero-add n)
numbers_in-append d zero n (b ∷ xs) ys len = absurd (omega arith)
numbers_in-append d (suc m) n xs ys len =
    let fits : d ≤ length xs = omega arith in
    let front : take d (xs ++ ys) ≡ take d xs = take-append-le d xs ys fits in
    let back : drop d (xs ++ ys) ≡ drop d xs ++ ys = drop-append-le d xs ys fits in
    ap (λ (k : ℕ). numbers_in d k (xs ++ ys)) (suc-add m n)
    ∙ ap (λ (b : List ℕ). number_of b ∷ numbers_in d (m + n) (drop d (xs ++ ys))) front
    ∙ ap (λ (b : List ℕ). number_of (take d xs) ∷ numbers_in d (m + n) b) back
    ∙ ap (λ (b : List ℕ). number_of (take d xs) ∷ b) (numbers_in-append d m n (drop d xs) ys (length-drop d xs ∙ omega arith))

-- the numbers of d bits whose bits they were made of
pub numbers_in-bits_of_each : (d : ℕ) (xs : List ℕ) → All (λ x. x < 2 ^ d) xs → numbers_in d (length xs) (bits_of_each d xs) ≡ xs
unfolding bits_of_each numbers_in
numbers_in-bits_of_each d [] each = refl
numbers_in-bits_of_each d (x ∷ xs) each =
    let rest : List ℕ = flat_map (bits_of d) xs in
    let first : x < 2 ^ d = All-head (λ x. x < 2 ^ d) x xs each in
    let front : take d (bits_of d x ++ rest) ≡ bits_of d x = take_at (bits_of d x) rest d (length-bits_of d x) in
    let back : drop d (bits_of d x ++ rest) ≡ rest = drop_at (bits_of d x) rest d (length-bits_of d x) in
    let number : number_of (take d (bits_of d x ++ rest)) ≡ x = ap number_of front ∙ number_of-bits_of d x ∙ mod-eq_of_lt first in
    ap (λ (y : ℕ). y ∷ numbers_in d (length xs) (drop d (bits_of d x ++ rest))) number
    ∙ ap (λ (b : List ℕ). x ∷ numbers_in d (length xs) b) back
    ∙ ap (λ (ys : List ℕ). x ∷ ys) (numbers_in-bits_of_each d xs (All-tail (λ x. x < 2 ^ d) x xs each))

pub bits_of_each-numbers_in : (d n : ℕ) (bits : List ℕ) → All (λ b. b < 2) bits → length bits ≡ d * n → bits_of_each d (numbers_in d n bits) ≡ bits
unfolding bits_of_each numbers_in
bits_of_each-numbers_in d zero [] each len = refl
bits_of_each-numbers_in d zero (b ∷ bits) each len = absurd (omega arith)
bits_of_each-numbers_in d (suc n) bits each len =
    let width : length (take d bits) ≡ d = length-take-le d bits (omega arith) in
    let front : bits_of d (number_of (take d bits)) ≡ take d bits = bits_of-number_of (take d bits) d (All-take (λ b. b < 2) d bits each) width in
    let back : bits_of_each d (numbers_in d n (drop d bits)) ≡ drop d bits =
    bits_of_each-numbers_in d n (drop d bits) (All-drop (λ b. b < 2) d bits each) (length-drop d bits ∙ omega arith) in
    ap (λ (x : List ℕ). x ++ bits_of_each d (numbers_in d n (drop d bits))) front ∙ ap (λ (x : List ℕ). take d bits ++ x) back ∙ take-append-drop d bits

-- the number of the first k bits, and of the others
number_of-split : (k : ℕ) (bits : List ℕ) → All (λ b. b < 2) bits → k ≤ length bits
    → (number_of (take k bits) < 2 ^ k) × (number_of bits ≡ number_of (drop k bits) * 2 ^ k + number_of (take k bits))
number_of-split k bits each fits =
    let width : length (take k bits) ≡ k = length-take-le k bits fits in
    let whole : number_of bits ≡ number_of (take k bits) + 2 ^ length (take k bits) * number_of (drop k bits) =
    ap number_of (sym (take-append-drop k bits)) ∙ number_of-append (take k bits) (drop k bits) in (
      rw width at (number_of-lt (take k bits) (All-take (λ b. b < 2) k bits each)),
      whole ∙ ap (λ (w : ℕ). number_of (take k bits) + 2 ^ w * number_of (drop k bits)) width ∙ omega arith,
    )

-- the number of d bits from place k on
number_of-part : (d k : ℕ) (bits : List ℕ) → All (λ b. b < 2) bits → k + d ≤ length bits → number_of (take d (drop k bits)) ≡ number_of bits / 2 ^ k % 2 ^ d
number_of-part d k bits each fits =
    let rest : List ℕ = drop k bits in
    let outer = number_of-split k bits each (omega arith) in
    let inner = number_of-split d rest (All-drop (λ b. b < 2) k bits each) (omega (arith, length-drop k bits)) in
    let high : number_of bits / 2 ^ k ≡ number_of rest = ap (λ (n : ℕ). n / 2 ^ k) outer.1 ∙ shr_high (number_of rest) k (number_of (take k bits)) outer.0 in
    let low : number_of rest % 2 ^ d ≡ number_of (take d rest) =
    ap (λ (n : ℕ). n % 2 ^ d) inner.1 ∙ mod_low (number_of (drop d rest)) d (number_of (take d rest)) inner.0 in
    sym (ap (λ (n : ℕ). n % 2 ^ d) high ∙ low)

numbers_in-piece : (d n : ℕ) (bits : List ℕ) (i : ℕ) → i < n → get_or (numbers_in d n bits) i 0 ≡ number_of (take d (drop (d * i) bits))
unfolding numbers_in
numbers_in-piece d zero bits i lt = absurd (omega arith)
numbers_in-piece d (suc n) bits zero lt =
    let none : 0 ≡ d * 0 = omega arith in
    ap (λ (k : ℕ). number_of (take d (drop k bits))) none
numbers_in-piece d (suc n) bits (suc i) lt =
    let place : d + d * i ≡ d * suc i = omega arith in
    numbers_in-piece d n (drop d bits) i (omega arith)
    ∙ ap (λ (b : List ℕ). number_of (take d b)) (drop-drop (d * i) d bits)
    ∙ ap (λ (k : ℕ). number_of (take d (drop k bits))) place

-- number i, as a part of the whole number
pub numbers_in-at : (d n : ℕ) (bits : List ℕ) (i : ℕ) → All (λ b. b < 2) bits → length bits ≡ d * n → i < n → get_or (numbers_in d n bits) i 0 ≡ number_of bits / 2 ^ (d * i) % 2 ^ d
numbers_in-at d n bits i each len lt =
    numbers_in-piece d n bits i lt ∙ number_of-part d (d * i) bits each (omega (arith, mul-le-mul_left d lt))
