-- The checksum's register and the remainder that it holds.
use Rattle.std.proofs.Common.{◌≡◌, ℕ, zero, suc, ◌+◌, ◌-◌, ◌*◌, ◌/◌, ◌%◌, ◌^◌, ◌<◌, ◌≤◌, Bool, true, false, List, [], ◌∷◌, ◌++◌, length, take, get_or, map, slice_index, replicate, All, refl, sym, ap, ◌∙◌, append_assoc, append-nil, length-append, arith}
use Rattle.std.specs.Prelude.{bit_xor, nat_lt, ◌==◌}
use Rattle.std.specs.List.{list_all, range_with_len}
use Rattle.std.proofs.Math.Nat.{pow-suc, mul-add-div_right, mul-add-mod_self_right}
use Rattle.std.proofs.lemmas.Bool.Decides.{nat_tests, same_from_decides, Decides-eqb, Decides-like}
use Rattle.std.proofs.lemmas.Grind.{fold-append}
use Rattle.std.proofs.lemmas.List.{map_more, length-map, get_or-map}
use Rattle.std.proofs.lemmas.List.Elements.{All-head, All-tail, All-append, All-cons, All-map, All-from_get_or, All-replicate}
use Rattle.std.proofs.lemmas.Slice.Eq.{bytes_eq-Decides}
use Rattle.std.proofs.lemmas.List.FromFn.{get_or-map-range_with_len}
use Rattle.std.proofs.lemmas.Nat.{xor_lt, xor_shr, xor_mod, mod_below, shr_split, div-mul-add, mod-mul-add}
use lib.Bits.{xor_zero_r}
use Rattle.bech32_long.specs.declared.checksum.TheConstants.{MULTIPLES}
use Rattle.bech32_long.specs.Field.{product, product_of}
use Rattle.bech32_long.specs.Groups.{digits_of, number_of}
use Rattle.bech32_long.specs.Checksum.{checksum, expanded, generator, is_checked, multiple, one, remainder_behind_one, remainder_in, residue, sum_of}
use Rattle.bech32_long.specs.private.Register.{next_register, register_after}
use Rattle.bech32_long.proofs.DigitLemmas.{digits_of-six, length-digits_of, number_of-digits_of}

-- ---- the table

pub lt-from_test : (n : ℕ) (xs : List ℕ) → 0 < n → list_all (λ x. nat_lt x n) xs ≡ true → (i : ℕ) → get_or xs i 0 < n
lt-from_test n [] p h i = p
lt-from_test n (x ∷ xs) p h zero = grind (arith, nat_tests)
lt-from_test n (x ∷ xs) p h (suc i) = lt-from_test n xs p (grind (arith, nat_tests)) i

pub MULTIPLES-lt : (i : ℕ) → get_or MULTIPLES i 0 < 2 ^ 30
MULTIPLES-lt i = lt-from_test (2 ^ 30) MULTIPLES (omega arith) refl i

-- place by place, the digits of the table are the multiples of the generator
MULTIPLES_are : map (λ t. multiple t generator) (range_with_len 0 32) ≡ map (λ n. digits_of 32 6 n) MULTIPLES
unfolding product product_of digits_of
MULTIPLES_are = refl

-- ---- steps of the register

pub next_register-lt : (register value : ℕ) → value < 32 → next_register register value < 2 ^ 30
unfolding next_register
next_register-lt register value h =
    let low : register % 2 ^ 25 < 2 ^ 25 = mod_below register (2 ^ 25) (omega arith) in
    xor_lt 30 (register % 2 ^ 25 * 32 + value) (get_or MULTIPLES (register / 2 ^ 25) 0) (omega arith) (MULTIPLES-lt (register / 2 ^ 25))

pub register_after-append : (register : ℕ) (xs ys : List ℕ) → register_after register (xs ++ ys) ≡ register_after (register_after register xs) ys
unfolding register_after
register_after-append register xs ys = fold-append next_register register xs ys

pub register_after-cons : (register value : ℕ) (xs : List ℕ) → register_after register (value ∷ xs) ≡ register_after (next_register register value) xs
unfolding register_after
register_after-cons register value xs = refl

pub register_after-nil : (register : ℕ) → register_after register [] ≡ register
unfolding register_after
register_after-nil register = refl

pub register_after-more : (f : ℕ → ℕ) (register : ℕ) (xs : List ℕ) (i : ℕ) → i < length xs
    → register_after register (map f (take (i + 1) xs)) ≡ next_register (register_after register (map f (take i xs))) (f (get_or xs i 0))
register_after-more f register xs i h =
    ap (register_after register) (map_more f xs i 0 h) ∙ register_after-append register (map f (take i xs)) (f (get_or xs i 0) ∷ [])
    ∙ register_after-cons (register_after register (map f (take i xs))) (f (get_or xs i 0)) []
    ∙ register_after-nil (next_register (register_after register (map f (take i xs))) (f (get_or xs i 0)))

pub register_after-expanded : (part : List ℕ) → register_after 1 (expanded part)
    ≡ register_after (next_register (register_after 1 (map (λ b. b / 32) part)) 0) (map (λ b. b % 32) part)
register_after-expanded part =
    register_after-append 1 (map (λ b. b / 32) part) (0 ∷ map (λ b. b % 32) part)
    ∙ register_after-cons (register_after 1 (map (λ b. b / 32) part)) 0 (map (λ b. b % 32) part)

-- ---- sums

pub sum_of-append : (p q r s : List ℕ) → length p ≡ length q → sum_of (p ++ r) (q ++ s) ≡ sum_of p q ++ sum_of r s
unfolding sum_of
sum_of-append [] [] r s h = refl
sum_of-append [] (b ∷ q) r s h = absurd (omega arith)
sum_of-append (a ∷ p) [] r s h = absurd (omega arith)
sum_of-append (a ∷ p) (b ∷ q) r s h = ap (λ (xs : List ℕ). bit_xor a b ∷ xs) (sum_of-append p q r s (omega arith))

pub sum_of-zeros : (p : List ℕ) → sum_of p (replicate (length p) 0) ≡ p
unfolding sum_of
sum_of-zeros [] = refl
sum_of-zeros (a ∷ p) = ap (λ (x : ℕ). x ∷ sum_of p (replicate (length p) 0)) (xor_zero_r a) ∙ ap (λ (xs : List ℕ). a ∷ xs) (sum_of-zeros p)

pub sum_of-digits_of : (n a b : ℕ) → sum_of (digits_of 32 n a) (digits_of 32 n b) ≡ digits_of 32 n (bit_xor a b)
unfolding digits_of sum_of
sum_of-digits_of zero a b = refl
sum_of-digits_of (suc n) a b =
    sum_of-append (digits_of 32 n (a / 32)) (digits_of 32 n (b / 32)) (a % 32 ∷ []) (b % 32 ∷ []) (length-digits_of 32 n (a / 32) ∙ sym (length-digits_of 32 n (b / 32)))
    ∙ ap (λ (xs : List ℕ). xs ++ bit_xor (a % 32) (b % 32) ∷ []) (sum_of-digits_of n (a / 32) (b / 32))
    ∙ ap (λ (x : ℕ). digits_of 32 n x ++ bit_xor (a % 32) (b % 32) ∷ []) (sym (xor_shr a b 5))
    ∙ ap (λ (x : ℕ). digits_of 32 n (bit_xor a b / 32) ++ x ∷ []) (sym (xor_mod a b 5))

-- ---- the register is the remainder

-- digits do not see what stands above them
digits_of-low : (n high low : ℕ) → digits_of 32 n (high * 32 ^ n + low) ≡ digits_of 32 n low
unfolding digits_of
digits_of-low zero high low = refl
digits_of-low (suc n) high low =
    let turned : high * 32 ^ suc n + low ≡ high * 32 ^ n * 32 + low = omega (arith, ap (λ (k : ℕ). high * k) (pow-suc 32 n)) in
    let quotient : (high * 32 ^ n * 32 + low) / 32 ≡ high * 32 ^ n + low / 32 = mul-add-div_right {m = 32} (omega arith) (high * 32 ^ n) low in
    let rest : (high * 32 ^ n * 32 + low) % 32 ≡ low % 32 = mul-add-mod_self_right (high * 32 ^ n) 32 low in
    rw (turned, quotient, rest) (ap (λ (xs : List ℕ). xs ++ low % 32 ∷ []) (digits_of-low n high (low / 32)))

-- the lower five of six digits, moved up by one place
pub digits_of-moved : (register value : ℕ) → value < 32 → digits_of 32 6 (register % 2 ^ 25 * 32 + value) ≡ digits_of 32 5 register ++ value ∷ []
unfolding digits_of
digits_of-moved register value h =
    let whole : digits_of 32 5 register ≡ digits_of 32 5 (register % 2 ^ 25) = ap (digits_of 32 5) (sym (shr_split register 25)) ∙ digits_of-low 5 (register / 2 ^ 25) (register % 2 ^ 25) in
    let quotient : (register % 2 ^ 25 * 32 + value) / 32 ≡ register % 2 ^ 25 = div-mul-add (register % 2 ^ 25) 32 value h in
    let rest : (register % 2 ^ 25 * 32 + value) % 32 ≡ value = mod-mul-add (register % 2 ^ 25) 32 value h in
    ap (λ (x : ℕ). digits_of 32 5 x ++ (register % 2 ^ 25 * 32 + value) % 32 ∷ []) quotient
    ∙ ap (λ (x : ℕ). digits_of 32 5 (register % 2 ^ 25) ++ x ∷ []) rest
    ∙ ap (λ (xs : List ℕ). xs ++ value ∷ []) (sym whole)

pub multiple-is : (t : ℕ) → t < 32 → multiple t generator ≡ digits_of 32 6 (get_or MULTIPLES t 0)
multiple-is t h =
    sym (get_or-map-range_with_len (λ k. multiple k generator) 0 32 t t [] h (omega arith))
    ∙ ap (λ (xs : List (List ℕ)). get_or xs t []) MULTIPLES_are
    ∙ get_or-map (λ n. digits_of 32 6 n) MULTIPLES t 0 [] h

-- one step of the division
division-step : (register value : ℕ) (vs : List ℕ) → register < 2 ^ 30 → value < 32
    → sum_of (digits_of 32 5 register ++ value ∷ vs) (multiple (register / 2 ^ 25) generator ++ replicate (length vs) 0)
    ≡ digits_of 32 6 (next_register register value) ++ vs
unfolding next_register
division-step register value vs h below =
    let moved : ℕ = register % 2 ^ 25 * 32 + value in
    let row : ℕ = get_or MULTIPLES (register / 2 ^ 25) 0 in
    let front : digits_of 32 5 register ++ value ∷ vs ≡ digits_of 32 6 moved ++ vs =
    sym (append_assoc (digits_of 32 5 register) (value ∷ []) vs) ∙ ap (λ (xs : List ℕ). xs ++ vs) (sym (digits_of-moved register value below)) in
    ap (λ (xs : List ℕ). sum_of xs (multiple (register / 2 ^ 25) generator ++ replicate (length vs) 0)) front
    ∙ ap (λ (xs : List ℕ). sum_of (digits_of 32 6 moved ++ vs) (xs ++ replicate (length vs) 0)) (multiple-is (register / 2 ^ 25) (omega arith))
    ∙ sum_of-append (digits_of 32 6 moved) (digits_of 32 6 row) vs (replicate (length vs) 0) (length-digits_of 32 6 moved ∙ sym (length-digits_of 32 6 row))
    ∙ ap (λ (xs : List ℕ). xs ++ sum_of vs (replicate (length vs) 0)) (sum_of-digits_of 6 moved row)
    ∙ ap (λ (xs : List ℕ). digits_of 32 6 (bit_xor moved row) ++ xs) (sum_of-zeros vs)

pub remainder_in-cons : (n c : ℕ) (p : List ℕ) → remainder_in (suc n) (c ∷ p) ≡ remainder_in n (sum_of p (multiple c generator ++ replicate n 0))
unfolding remainder_in
remainder_in-cons n c p = refl

pub remainder_in-zero : (p : List ℕ) → remainder_in 0 p ≡ p
unfolding remainder_in
remainder_in-zero p = refl

pub remainder_in-register : (vs : List ℕ) (register : ℕ) → register < 2 ^ 30 → All (λ v. v < 32) vs
    → remainder_in (length vs) (digits_of 32 6 register ++ vs) ≡ digits_of 32 6 (register_after register vs)
remainder_in-register [] register h all =
    remainder_in-zero (digits_of 32 6 register ++ []) ∙ append-nil (digits_of 32 6 register) ∙ ap (digits_of 32 6) (sym (register_after-nil register))
remainder_in-register (v ∷ vs) register h all =
    let below : v < 32 = All-head (λ (x : ℕ). x < 32) v vs all in
    ap (λ (xs : List ℕ). remainder_in (suc (length vs)) (xs ++ v ∷ vs)) (digits_of-six register h)
    ∙ remainder_in-cons (length vs) (register / 2 ^ 25) (digits_of 32 5 register ++ v ∷ vs)
    ∙ ap (remainder_in (length vs)) (division-step register v vs h below)
    ∙ remainder_in-register vs (next_register register v) (next_register-lt register v below) (All-tail (λ (x : ℕ). x < 32) v vs all)
    ∙ ap (digits_of 32 6) (sym (register_after-cons register v vs))

pub one-is : one ≡ digits_of 32 6 1
unfolding digits_of
one-is = refl

pub remainder_behind_one-register : (vs : List ℕ) → All (λ v. v < 32) vs → remainder_behind_one vs ≡ digits_of 32 6 (register_after 1 vs)
unfolding remainder_behind_one
remainder_behind_one-register vs all = ap (λ (xs : List ℕ). remainder_in (length vs) (xs ++ vs)) one-is ∙ remainder_in-register vs 1 (omega arith) all

pub expanded-lt : (part : List ℕ) → ((k : ℕ) → get_or part k 0 < 256) → All (λ v. v < 32) (expanded part)
expanded-lt part h =
    let P : ℕ → Type 0 = λ v. v < 32 in
    All-append P (map (λ b. b / 32) part) (0 ∷ map (λ b. b % 32) part)
    (All-map P (λ b. b / 32) part (All-from_get_or (λ (b : ℕ). b / 32 < 32) part 0 (λ i _. omega (arith, h i))))
    (All-cons P 0 (map (λ b. b % 32) part) (omega arith) (All-map P (λ b. b % 32) part (All-from_get_or (λ (b : ℕ). b % 32 < 32) part 0 (λ i _. mod_below (get_or part i 0) 32 (omega arith)))))

pub residue-register : (part values : List ℕ) → ((k : ℕ) → get_or part k 0 < 256) → All (λ v. v < 32) values
    → residue part values ≡ digits_of 32 6 (register_after (register_after 1 (expanded part)) values)
residue-register part values h all =
    remainder_behind_one-register (expanded part ++ values) (All-append (λ (v : ℕ). v < 32) (expanded part) values (expanded-lt part h) all)
    ∙ ap (digits_of 32 6) (register_after-append 1 (expanded part) values)

pub checksum-register : (part values : List ℕ) → ((k : ℕ) → get_or part k 0 < 256) → All (λ v. v < 32) values
    → checksum part values ≡ digits_of 32 6 (bit_xor (register_after (register_after (register_after 1 (expanded part)) values) (replicate 6 0)) 1)
checksum-register part values h all =
    let after : ℕ = register_after (register_after 1 (expanded part)) values in
    let zeros : List ℕ = replicate 6 0 in
    ap (λ (xs : List ℕ). sum_of xs one) (residue-register part (values ++ zeros) h (All-append (λ (v : ℕ). v < 32) values zeros all (All-replicate (λ (v : ℕ). v < 32) 6 0 (omega arith))))
    ∙ ap (λ (r : ℕ). sum_of (digits_of 32 6 r) one) (register_after-append (register_after 1 (expanded part)) values zeros)
    ∙ ap (sum_of (digits_of 32 6 (register_after after zeros))) one-is
    ∙ sum_of-digits_of 6 (register_after after zeros) 1

pub is_checked-register : (part values : List ℕ) (r : ℕ) → r < 2 ^ 30 → residue part values ≡ digits_of 32 6 r → (r == 1) ≡ is_checked part values
is_checked-register part values r h is =
    let back : residue part values ≡ one → r ≡ 1 = λ (e : residue part values ≡ one).
    sym (number_of-digits_of 32 6 r (omega arith) h) ∙ ap (number_of 32) (sym is ∙ e ∙ one-is) ∙ number_of-digits_of 32 6 1 (omega arith) (omega arith) in
    let there : r ≡ 1 → residue part values ≡ one = λ (e : r ≡ 1). is ∙ ap (digits_of 32 6) e ∙ sym one-is in
    same_from_decides (r == 1) (is_checked part values) (Decides-eqb r 1)
    (Decides-like (is_checked part values) back there (bytes_eq-Decides (residue part values) one))
