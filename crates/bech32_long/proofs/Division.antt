-- Long division leaves the remainder, and there is one remainder alone.
use Rattle.std.proofs.Common.{◌≡◌, ℕ, zero, suc, ◌+◌, ◌-◌, ◌<◌, ◌≤◌, List, [], ◌∷◌, ◌++◌, length, get_or, map, replicate, All, refl, sym, ap, subst, ◌∙◌, length-append, arith}
use Rattle.std.specs.Prelude.{bit_xor}
use Rattle.std.specs.List.{range_with_len}
use Rattle.std.proofs.lemmas.List.{length-map, length-replicate}
use Rattle.std.proofs.lemmas.List.Elements.{All-nil, All-cons, All-head, All-tail, All-append, All-replicate}
use Rattle.std.proofs.lemmas.List.FromFn.{get_or-map-range_with_len, get_or-range_with_len}
use Rattle.std.proofs.lemmas.Nat.{xor_lt}
use lib.Bits.{xor_zero_l, xor_zero_r, xor_assoc, xor_comm}
use Rattle.bech32_long.specs.Field.{product, product_of}
use Rattle.bech32_long.specs.Groups.{digits_of}
use Rattle.bech32_long.specs.Checksum.{IsRemainder, generator, multiple, one, polynomial_product, remainder_behind_one, remainder_in, sum_of}
use Rattle.bech32_long.specs.declared.checksum.TheConstants.{MULTIPLES}
use Rattle.bech32_long.proofs.DigitLemmas.{digits_of-lt}
use Rattle.bech32_long.proofs.Registers.{multiple-is, one-is, remainder_in-cons, remainder_in-zero}
use Rattle.bech32_long.proofs.Residues.{xor-twice}

-- a multiple of the generator
abbrev times_generator : List ℕ → List ℕ
times_generator q = polynomial_product q (1 ∷ generator)

ones : map (λ c. product c 1) (range_with_len 0 32) ≡ range_with_len 0 32
unfolding product product_of
ones = refl

product-one : (c : ℕ) → c < 32 → product c 1 ≡ c
product-one c h =
    sym (get_or-map-range_with_len (λ k. product k 1) 0 32 c c 0 h (omega arith)) ∙ ap (λ (xs : List ℕ). get_or xs c 0) ones ∙ get_or-range_with_len 0 32 c 0 h ∙ omega arith

multiple-lt : (c : ℕ) → c < 32 → All (λ v. v < 32) (multiple c generator)
multiple-lt c h = subst (All (λ (v : ℕ). v < 32)) (sym (multiple-is c h)) (digits_of-lt 32 6 (get_or MULTIPLES c 0) (omega arith))

-- ---- sums

length-sum_of : (p q : List ℕ) → length p ≡ length q → length (sum_of p q) ≡ length p
unfolding sum_of
length-sum_of [] q h = refl
length-sum_of (a ∷ p) [] h = absurd (omega arith)
length-sum_of (a ∷ p) (b ∷ q) h = ap (λ (n : ℕ). suc n) (length-sum_of p q (omega arith))

sum_of-assoc : (p q r : List ℕ) → sum_of (sum_of p q) r ≡ sum_of p (sum_of q r)
unfolding sum_of
sum_of-assoc [] q r = refl
sum_of-assoc (a ∷ p) [] r = refl
sum_of-assoc (a ∷ p) (b ∷ q) [] = refl
sum_of-assoc (a ∷ p) (b ∷ q) (c ∷ r) =
    ap (λ (x : ℕ). x ∷ sum_of (sum_of p q) r) (xor_assoc a b c) ∙ ap (λ (xs : List ℕ). bit_xor a (bit_xor b c) ∷ xs) (sum_of-assoc p q r)

sum_of-again : (p q : List ℕ) → length p ≡ length q → sum_of p (sum_of p q) ≡ q
unfolding sum_of
sum_of-again [] [] h = refl
sum_of-again [] (b ∷ q) h = absurd (omega arith)
sum_of-again (a ∷ p) [] h = absurd (omega arith)
sum_of-again (a ∷ p) (b ∷ q) h =
    ap (λ (x : ℕ). x ∷ sum_of p (sum_of p q)) (xor-twice a b) ∙ ap (λ (xs : List ℕ). b ∷ xs) (sum_of-again p q (omega arith))

sum_of-comm : (p q : List ℕ) → sum_of p q ≡ sum_of q p
unfolding sum_of
sum_of-comm [] [] = refl
sum_of-comm [] (b ∷ q) = refl
sum_of-comm (a ∷ p) [] = refl
sum_of-comm (a ∷ p) (b ∷ q) = ap (λ (x : ℕ). x ∷ sum_of p q) (xor_comm a b) ∙ ap (λ (xs : List ℕ). bit_xor b a ∷ xs) (sum_of-comm p q)

zeros-sum_of : (p : List ℕ) → sum_of (replicate (length p) 0) p ≡ p
unfolding sum_of
zeros-sum_of [] = refl
zeros-sum_of (a ∷ p) = ap (λ (x : ℕ). x ∷ sum_of (replicate (length p) 0) p) (xor_zero_l a) ∙ ap (λ (xs : List ℕ). a ∷ xs) (zeros-sum_of p)

sum_of-lt : (p q : List ℕ) → All (λ v. v < 32) p → All (λ v. v < 32) q → All (λ v. v < 32) (sum_of p q)
unfolding sum_of
sum_of-lt [] q hp hq = All-nil (λ (v : ℕ). v < 32)
sum_of-lt (a ∷ p) [] hp hq = All-nil (λ (v : ℕ). v < 32)
sum_of-lt (a ∷ p) (b ∷ q) hp hq =
    All-cons (λ (v : ℕ). v < 32) (bit_xor a b) (sum_of p q) (xor_lt 5 a b (All-head (λ (v : ℕ). v < 32) a p hp) (All-head (λ (v : ℕ). v < 32) b q hq))
    (sum_of-lt p q (All-tail (λ (v : ℕ). v < 32) a p hp) (All-tail (λ (v : ℕ). v < 32) b q hq))

-- ---- one coefficient of the quotient

-- a multiple of the generator, moved up
abbrev moved : ℕ → ℕ → List ℕ
moved c n = multiple c generator ++ replicate n 0

length-moved : (c n : ℕ) → length (moved c n) ≡ n + 6
length-moved c n = length-append (multiple c generator) (replicate n 0) ∙ omega (arith, length-replicate {A = ℕ} n 0)

times_generator-cons : (c : ℕ) (q r : List ℕ) → c < 32
    → sum_of (times_generator (c ∷ q)) (replicate (length (c ∷ q)) 0 ++ r) ≡ c ∷ sum_of (moved c (length q)) (sum_of (times_generator q) (replicate (length q) 0 ++ r))
unfolding polynomial_product sum_of
times_generator-cons c q r h =
    let head : bit_xor (bit_xor (product c 1) 0) 0 ≡ c = xor_zero_r (bit_xor (product c 1) 0) ∙ xor_zero_r (product c 1) ∙ product-one c h in
    let rest : List ℕ = sum_of (sum_of (moved c (length q)) (times_generator q)) (replicate (length q) 0 ++ r) in
    ap (λ (x : ℕ). x ∷ rest) head
    ∙ ap (λ (xs : List ℕ). c ∷ xs) (sum_of-assoc (moved c (length q)) (times_generator q) (replicate (length q) 0 ++ r))

length-times_generator : (q : List ℕ) → length (times_generator q) ≡ length q + 6
unfolding polynomial_product
length-times_generator [] = refl
length-times_generator (c ∷ q) =
    let front : length (multiple c (1 ∷ generator) ++ replicate (length q) 0) ≡ length q + 7 =
    length-append (multiple c (1 ∷ generator)) (replicate (length q) 0) ∙ omega (arith, length-replicate {A = ℕ} (length q) 0) in
    length-sum_of (multiple c (1 ∷ generator) ++ replicate (length q) 0) (0 ∷ times_generator q) (omega (arith, length-times_generator q)) ∙ omega arith

times_generator-nil : times_generator [] ≡ replicate 6 0
unfolding polynomial_product
times_generator-nil = refl

length-rest : (q r : List ℕ) → length r ≡ 6 → length (sum_of (times_generator q) (replicate (length q) 0 ++ r)) ≡ length q + 6
length-rest q r six =
    let long : length (replicate (length q) 0 ++ r) ≡ length q + 6 = length-append (replicate (length q) 0) r ∙ omega (arith, length-replicate {A = ℕ} (length q) 0) in
    length-sum_of (times_generator q) (replicate (length q) 0 ++ r) (length-times_generator q ∙ sym long) ∙ length-times_generator q

-- ---- long division

-- p is q times the generator, and r
record Divides (n : ℕ) (p r : List ℕ) : Type 0 where
  quotient : List ℕ
  count : length quotient ≡ n
  small : All (λ c. c < 32) quotient
  rest : All (λ c. c < 32) r
  six : length r ≡ 6
  whole : p ≡ sum_of (times_generator quotient) (replicate (length quotient) 0 ++ r)

-- a step of the division, seen from its end
whole-cons : (n c : ℕ) (p q r : List ℕ) → c < 32 → length q ≡ n → length (moved c n) ≡ length p
    → sum_of p (moved c n) ≡ sum_of (times_generator q) (replicate (length q) 0 ++ r)
    → c ∷ p ≡ sum_of (times_generator (c ∷ q)) (replicate (length (c ∷ q)) 0 ++ r)
whole-cons n c p q r below count even is =
    let rest : List ℕ = sum_of (times_generator q) (replicate (length q) 0 ++ r) in
    let back : sum_of (moved c n) (sum_of p (moved c n)) ≡ p = ap (sum_of (moved c n)) (sum_of-comm p (moved c n)) ∙ sum_of-again (moved c n) p even in
    let tail : sum_of (moved c (length q)) rest ≡ p =
    ap (λ (k : ℕ). sum_of (moved c k) rest) count ∙ ap (sum_of (moved c n)) (sym is) ∙ back in
    sym (times_generator-cons c q r below ∙ ap (λ (xs : List ℕ). c ∷ xs) tail)

divides : (n : ℕ) (p : List ℕ) → length p ≡ n + 6 → All (λ c. c < 32) p → Divides n p (remainder_in n p)
divides zero p len all =
    let six : length p ≡ 6 = omega arith in
    rw (remainder_in-zero p) record {
      quotient = [];
      count = refl;
      small = All-nil (λ (c : ℕ). c < 32);
      rest = all;
      six = six;
      whole = sym (ap (λ (k : ℕ). sum_of (replicate k 0) p) (sym six) ∙ zeros-sum_of p) ∙ ap (λ (xs : List ℕ). sum_of xs p) (sym times_generator-nil);
    }
divides (suc n) [] len all = absurd (omega arith)
divides (suc n) (c ∷ p) len all =
    let below : c < 32 = All-head (λ (v : ℕ). v < 32) c p all in
    let short : length p ≡ n + 6 = omega arith in
    let even : length (moved c n) ≡ length p = length-moved c n ∙ sym short in
    let next : List ℕ = sum_of p (moved c n) in
    let next-len : length next ≡ n + 6 = length-sum_of p (moved c n) (sym even) ∙ short in
    let next-lt : All (λ v. v < 32) next = sum_of-lt p (moved c n) (All-tail (λ (v : ℕ). v < 32) c p all)
    (All-append (λ (v : ℕ). v < 32) (multiple c generator) (replicate n 0) (multiple-lt c below) (All-replicate (λ (v : ℕ). v < 32) n 0 (omega arith))) in
    let d : Divides n next (remainder_in n next) = divides n next next-len next-lt in
    rw (remainder_in-cons n c p) record {
      quotient = c ∷ d.quotient;
      count = ap (λ (k : ℕ). suc k) d.count;
      small = All-cons (λ (v : ℕ). v < 32) c d.quotient below d.small;
      rest = d.rest;
      six = d.six;
      whole = whole-cons n c p d.quotient (remainder_in n next) below d.count even d.whole;
    }

pub IsRemainder-behind_one : (values : List ℕ) → All (λ v. v < 32) values → IsRemainder (one ++ values) (remainder_behind_one values)
unfolding remainder_behind_one
IsRemainder-behind_one values all =
    let len : length (one ++ values) ≡ length values + 6 = length-append one values ∙ omega arith in
    let small : All (λ v. v < 32) one = subst (All (λ (v : ℕ). v < 32)) (sym one-is) (digits_of-lt 32 6 1 (omega arith)) in
    let d : Divides (length values) (one ++ values) (remainder_in (length values) (one ++ values)) =
    divides (length values) (one ++ values) len (All-append (λ (v : ℕ). v < 32) one values small all) in
    record { quotient = d.quotient; elements = (d.small, d.rest); six = d.six; whole = d.whole }

-- ---- one remainder

same_rest : (q s r t : List ℕ) → length q ≡ length s → All (λ c. c < 32) q → All (λ c. c < 32) s → length r ≡ 6 → length t ≡ 6
    → sum_of (times_generator q) (replicate (length q) 0 ++ r) ≡ sum_of (times_generator s) (replicate (length s) 0 ++ t) → r ≡ t
same_rest [] [] r t len hq hs hr ht e =
    let alone : (xs : List ℕ) → length xs ≡ 6 → sum_of (times_generator []) xs ≡ xs =
    λ (xs : List ℕ) (six : length xs ≡ 6). ap (λ (ys : List ℕ). sum_of ys xs) times_generator-nil ∙ ap (λ (k : ℕ). sum_of (replicate k 0) xs) (sym six) ∙ zeros-sum_of xs in
    sym (alone r hr) ∙ e ∙ alone t ht
same_rest [] (d ∷ s) r t len hq hs hr ht e = absurd (omega arith)
same_rest (c ∷ q) [] r t len hq hs hr ht e = absurd (omega arith)
same_rest (c ∷ q) (d ∷ s) r t len hq hs hr ht e =
    let below_c : c < 32 = All-head (λ (v : ℕ). v < 32) c q hq in
    let below_d : d < 32 = All-head (λ (v : ℕ). v < 32) d s hs in
    let rest_q : List ℕ = sum_of (times_generator q) (replicate (length q) 0 ++ r) in
    let rest_s : List ℕ = sum_of (times_generator s) (replicate (length s) 0 ++ t) in
    let both : c ∷ sum_of (moved c (length q)) rest_q ≡ d ∷ sum_of (moved d (length s)) rest_s =
    sym (times_generator-cons c q r below_c) ∙ e ∙ times_generator-cons d s t below_d in
    let first : c ≡ d = (cc) in
    let behind : sum_of (moved c (length q)) rest_q ≡ sum_of (moved d (length s)) rest_s = (cc) in
    let short : length q ≡ length s = omega arith in
    let same : moved d (length s) ≡ moved c (length q) = ap (λ (k : ℕ). moved k (length s)) (sym first) ∙ ap (moved c) (sym short) in
    let long_q : length rest_q ≡ length q + 6 = length-rest q r hr in
    let long_s : length rest_s ≡ length q + 6 = length-rest s t ht ∙ ap (λ (k : ℕ). k + 6) (sym short) in
    let wide : length (moved c (length q)) ≡ length q + 6 = length-moved c (length q) in
    let tails : rest_q ≡ rest_s =
    sym (sum_of-again (moved c (length q)) rest_q (wide ∙ sym long_q)) ∙ ap (sum_of (moved c (length q))) (behind ∙ ap (λ (xs : List ℕ). sum_of xs rest_s) same)
    ∙ sum_of-again (moved c (length q)) rest_s (wide ∙ sym long_s) in
    same_rest q s r t short (All-tail (λ (v : ℕ). v < 32) c q hq) (All-tail (λ (v : ℕ). v < 32) d s hs) hr ht tails

pub one_remainder : (p r s : List ℕ) → IsRemainder p r → IsRemainder p s → r ≡ s
one_remainder p r s x y =
    let short : length x.quotient ≡ length y.quotient =
    let lx : length p ≡ length x.quotient + 6 = ap length x.whole ∙ length-rest x.quotient r x.six in
    let ly : length p ≡ length y.quotient + 6 = ap length y.whole ∙ length-rest y.quotient s y.six in
    omega arith in
    same_rest x.quotient y.quotient r s short x.elements.0 y.elements.0 x.six y.six (sym x.whole ∙ y.whole)
