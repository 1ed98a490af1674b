-- Numbers and their digits.
use Rattle.std.proofs.Common.{◌≡◌, ℕ, zero, suc, ◌+◌, ◌*◌, ◌/◌, ◌%◌, ◌^◌, ◌<◌, List, [], ◌∷◌, ◌++◌, length, take, get_or, All, refl, sym, ap, ◌∙◌, arith}
use Rattle.std.proofs.lemmas.Grind.{fold-append}
use Rattle.std.proofs.lemmas.List.{take_more, length_push}
use Rattle.std.proofs.lemmas.List.Elements.{All-nil, All-cons, All-append}
use Rattle.std.proofs.lemmas.Nat.{div-mul-add, mod-mul-add, mod_below, shr-shr, div_below, div-add-mod'}
use Rattle.std.proofs.Math.Nat.{pow-suc, pow-zero}
use Rattle.bech32_long.specs.Groups.{number_of, digits_of}

pub number_of-nil : (base : ℕ) → number_of base [] ≡ 0
unfolding number_of
number_of-nil base = refl

pub number_of-push : (base : ℕ) (xs : List ℕ) (d : ℕ) → number_of base (xs ++ d ∷ []) ≡ number_of base xs * base + d
unfolding number_of
number_of-push base xs d = fold-append (λ (n : ℕ) (x : ℕ). n * base + x) 0 xs (d ∷ [])

pub number_of-more : (base : ℕ) (xs : List ℕ) (i : ℕ) → i < length xs → number_of base (take (i + 1) xs) ≡ number_of base (take i xs) * base + get_or xs i 0
number_of-more base xs i h = ap (number_of base) (take_more xs i 0 h) ∙ number_of-push base (take i xs) (get_or xs i 0)

pub length-digits_of : (base n x : ℕ) → length (digits_of base n x) ≡ n
unfolding digits_of
length-digits_of base zero x = refl
length-digits_of base (suc n) x = length_push (digits_of base n (x / base)) (x % base) ∙ omega (arith, length-digits_of base n (x / base))

pub digits_of-push : (base n x d : ℕ) → d < base → digits_of base n x ++ d ∷ [] ≡ digits_of base (suc n) (x * base + d)
unfolding digits_of
digits_of-push base n x d h = rw (div-mul-add x base d h, mod-mul-add x base d h) refl

pub digits_of-lt : (base n x : ℕ) → 0 < base → All (λ d. d < base) (digits_of base n x)
unfolding digits_of
digits_of-lt base zero x h = All-nil (λ d. d < base)
digits_of-lt base (suc n) x h =
    All-append (λ d. d < base) (digits_of base n (x / base)) (x % base ∷ []) (digits_of-lt base n (x / base) h)
    (All-cons (λ d. d < base) (x % base) [] (mod_below x base h) (All-nil (λ d. d < base)))

-- the six digits of 30 bits
pub six_digits : (n : ℕ) → digits_of 32 6 n ≡ n / 2 ^ 25 % 32 ∷ n / 2 ^ 20 % 32 ∷ n / 2 ^ 15 % 32 ∷ n / 2 ^ 10 % 32 ∷ n / 2 ^ 5 % 32 ∷ n % 32 ∷ []
unfolding digits_of
six_digits n =
    let two : n / 32 / 32 ≡ n / 2 ^ 10 = shr-shr n 5 5 in
    let three : n / 2 ^ 10 / 32 ≡ n / 2 ^ 15 = shr-shr n 10 5 in
    let four : n / 2 ^ 15 / 32 ≡ n / 2 ^ 20 = shr-shr n 15 5 in
    let five : n / 2 ^ 20 / 32 ≡ n / 2 ^ 25 = shr-shr n 20 5 in
    rw (two, three, four, five) refl

-- the highest of the six digits, and the lower five
pub digits_of-six : (n : ℕ) → n < 2 ^ 30 → digits_of 32 6 n ≡ n / 2 ^ 25 ∷ digits_of 32 5 n
unfolding digits_of
digits_of-six n h =
    let two : n / 32 / 32 ≡ n / 2 ^ 10 = shr-shr n 5 5 in
    let three : n / 2 ^ 10 / 32 ≡ n / 2 ^ 15 = shr-shr n 10 5 in
    let four : n / 2 ^ 15 / 32 ≡ n / 2 ^ 20 = shr-shr n 15 5 in
    let five : n / 2 ^ 20 / 32 ≡ n / 2 ^ 25 = shr-shr n 20 5 in
    let top : n / 2 ^ 25 % 32 ≡ n / 2 ^ 25 = omega arith in
    rw (two, three, four, five, top) refl

pub number_of-digits_of : (base n x : ℕ) → 0 < base → x < base ^ n → number_of base (digits_of base n x) ≡ x
unfolding digits_of
number_of-digits_of base zero x p h = number_of-nil base ∙ omega (arith, pow-zero base)
number_of-digits_of base (suc n) x p h =
    let below : x / base < base ^ n = div_below x base (base ^ n) p (omega (arith, pow-suc base n)) in
    number_of-push base (digits_of base n (x / base)) (x % base)
    ∙ ap (λ (k : ℕ). k * base + x % base) (number_of-digits_of base n (x / base) p below)
    ∙ div-add-mod' x base
