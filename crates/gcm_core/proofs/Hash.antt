-- GHASH: Horner's rule gives the sum of products, and the blocks come piece by piece.
use Rattle.std.proofs.Common.{◌≡◌, ◌↔◌, ℕ, zero, suc, ◌+◌, ◌-◌, ◌*◌, ◌/◌, ◌%◌, ◌^◌, ◌<◌, ◌≤◌, List, [], ◌∷◌, ◌++◌, length, take, drop, replicate, refl, sym, ap, ◌∙◌, add-one, arith, IsTrue, inl, inr, length-append, length-drop}
use Rattle.std.specs.Prelude.{Bool, true, false, bit_xor, if◌then◌else◌}
use Rattle.std.specs.Int.{div_ceil, to_be_bytes, w64}
use Rattle.std.proofs.lemmas.Bool.{cases_lt, false≢true}
use Rattle.std.proofs.lemmas.Nat.{pow-add, pow_pos, shr-shr}
use Rattle.std.proofs.lemmas.List.{append_assoc, append-nil, drop-append-le, drop-drop, length-replicate, take-append-le, take_all, nil_from_length}
use lib.Bits.{xor_assoc, xor_comm, xor_zero_r}
use Rattle.gcm_core.proofs.Fields.{Reduces, picked, product_of-by_one, product_of-lt, product_of-of_xor, product_of-one, product_of_comm, product_of-more, product_of-next, product_of-xor, product_of-zero, product_of_assoc, times_x-high, times_x-low}
use Rattle.gcm_core.specs.FieldMul.{product_of, times_x}
use Rattle.gcm_core.specs.Gcm.{authenticated, padded}
use Rattle.gcm_core.specs.Ghash.{block_power, block_product, polynomial_of, polynomials, reduction_block, weighted_sum}
use Rattle.gcm_core.specs.private.Continued.{continued}

-- ---- the field GF(2^128)

pub reduces_block : Reduces 128 reduction_block
unfolding product_of times_x
reduces_block = record { some = omega arith; small = omega arith; at_one = refl }

pub block_product-lt : (a b : ℕ) → b < 2 ^ 128 → block_product a b < 2 ^ 128
unfolding block_product
block_product-lt a b h = product_of-lt 128 reduction_block 128 a b reduces_block.some reduces_block.small h

pub block_product-xor : (a d b : ℕ) → b < 2 ^ 128 → block_product (bit_xor a d) b ≡ bit_xor (block_product a b) (block_product d b)
unfolding block_product
block_product-xor a d b h = product_of-xor 128 reduction_block 128 a d b reduces_block.some reduces_block.small h

pub block_product_assoc : (a b c : ℕ) → b < 2 ^ 128 → c < 2 ^ 128 → block_product (block_product a b) c ≡ block_product a (block_product b c)
unfolding block_product
block_product_assoc a b c hb hc = product_of_assoc 128 reduction_block 128 a b c reduces_block hb hc

pub block_product_comm : (a b : ℕ) → a < 2 ^ 128 → b < 2 ^ 128 → block_product a b ≡ block_product b a
unfolding block_product
block_product_comm a b ha hb = product_of_comm 128 reduction_block 128 a b reduces_block.some reduces_block.small (omega arith) ha hb

-- additive in the second factor
pub block_product-of_xor : (a b c : ℕ) → b < 2 ^ 128 → c < 2 ^ 128 → block_product a (bit_xor b c) ≡ bit_xor (block_product a b) (block_product a c)
unfolding block_product
block_product-of_xor a b c hb hc = product_of-of_xor 128 reduction_block 128 a b c reduces_block.some reduces_block.small hb hc

pub block_product-one : (b : ℕ) → block_product 1 b ≡ b
unfolding block_product
block_product-one b = product_of-one 128 reduction_block 127 b

pub block_product-by_one : (a : ℕ) → a < 2 ^ 128 → block_product a 1 ≡ a
unfolding block_product
block_product-by_one a h = product_of-by_one 128 reduction_block 128 a (omega arith) h

pub block_product-zero : (b : ℕ) → block_product 0 b ≡ 0
unfolding block_product
block_product-zero b = product_of-zero 128 reduction_block 128 b

-- a product beside that of 0
pub zero-and : (g h b : ℕ) → bit_xor (block_product 0 g) (block_product b h) ≡ block_product b h
zero-and g h b = ap (λ (z : ℕ). bit_xor z (block_product b h)) (block_product-zero g) ∙ xor_comm 0 (block_product b h) ∙ xor_zero_r (block_product b h)

-- two steps of Horner's rule
pub horner-two : (h a b : ℕ) → h < 2 ^ 128 → bit_xor (block_product a (block_product h h)) (block_product b h) ≡ block_product (bit_xor (block_product a h) b) h
horner-two h a b l =
    ap (λ (z : ℕ). bit_xor z (block_product b h)) (sym (block_product_assoc a h h l l)) ∙ sym (block_product-xor (block_product a h) b h l)

block_power-lt : (h n : ℕ) → block_power h n < 2 ^ 128
unfolding block_power
block_power-lt h zero = omega arith
block_power-lt h (suc n) = block_product-lt h (block_power h n) (block_power-lt h n)

block_power-next : (h n : ℕ) → block_power h (n + 1) ≡ block_product h (block_power h n)
unfolding block_power
block_power-next h n = rw (add-one n) refl

-- ---- Horner's rule

-- one block more
pub continued-next : (h y x : ℕ) (xs : List ℕ) → h < 2 ^ 128 → continued h y (x ∷ xs) ≡ continued h (block_product (bit_xor y x) h) xs
unfolding block_power weighted_sum
continued-next h y x xs l =
    let n : ℕ = length xs in
    let p : ℕ = block_product h (block_power h n) in
    let lp : p < 2 ^ 128 = block_product-lt h (block_power h n) (block_power-lt h n) in
    let s : ℕ = weighted_sum h xs in
    let term : block_product (block_product (bit_xor y x) h) (block_power h n) ≡ bit_xor (block_product y p) (block_product x p) =
    block_product_assoc (bit_xor y x) h (block_power h n) l (block_power-lt h n) ∙ block_product-xor y x p lp in
    ap (λ (z : ℕ). bit_xor (block_product y p) (bit_xor (block_product x z) s)) (block_power-next h n)
    ∙ sym (xor_assoc (block_product y p) (block_product x p) s) ∙ ap (λ (z : ℕ). bit_xor z s) (sym term)

-- no block more
pub continued-none : (h y : ℕ) → y < 2 ^ 128 → continued h y [] ≡ y
unfolding block_power weighted_sum
continued-none h y l = xor_zero_r (block_product y 1) ∙ block_product-by_one y l

pub continued-zero : (h : ℕ) (xs : List ℕ) → continued h 0 xs ≡ weighted_sum h xs
continued-zero h xs = ap (λ (z : ℕ). bit_xor z (weighted_sum h xs)) (block_product-zero (block_power h (length xs)))

pub continued-append : (h y : ℕ) (xs ys : List ℕ) → h < 2 ^ 128 → y < 2 ^ 128 → continued h (continued h y xs) ys ≡ continued h y (xs ++ ys)
continued-append h y [] ys l ly = ap (λ (z : ℕ). continued h z ys) (continued-none h y ly)
continued-append h y (x ∷ xs) ys l ly =
    let z : ℕ = block_product (bit_xor y x) h in
    ap (λ (k : ℕ). continued h k ys) (continued-next h y x xs l) ∙ continued-append h z xs ys l (block_product-lt (bit_xor y x) h l)
    ∙ sym (continued-next h y x (xs ++ ys) l)

-- ---- a product's loop

product_of-step : (m i a b prev t : ℕ) → i < m → prev ≡ product_of 128 reduction_block i (a / 2 ^ (m - i)) b → t ≡ times_x 128 reduction_block prev
    → bit_xor t (picked (a / 2 ^ (m - (i + 1)) % 2) b) ≡ product_of 128 reduction_block (i + 1) (a / 2 ^ (m - (i + 1))) b
product_of-step m i a b prev t lt held et =
    let k : ℕ = m - (i + 1) in
    let e : m - i ≡ k + 1 = omega arith in
    let half : a / 2 ^ k / 2 ≡ a / 2 ^ (m - i) = rw e (shr-shr a k 1) in
    let inner : t ≡ times_x 128 reduction_block (product_of 128 reduction_block i (a / 2 ^ k / 2) b) = et ∙ ap (times_x 128 reduction_block) (held ∙ rw half refl) in
    ap (λ (z : ℕ). bit_xor z (picked (a / 2 ^ k % 2) b)) inner ∙ sym (product_of-next 128 reduction_block i (a / 2 ^ k) b) ∙ rw (add-one i) refl

-- by a choice on the bit
pub product_of-chosen : (odd : Bool) (m k i a b prev t out : ℕ) → i < m → k ≡ m - (i + 1) → prev ≡ product_of 128 reduction_block i (a / 2 ^ (m - i)) b → t ≡ times_x 128 reduction_block prev
    → IsTrue odd ↔ (a / 2 ^ k % 2 ≡ 1) → out ≡ (if odd then bit_xor t b else t) → out ≡ product_of 128 reduction_block (i + 1) (a / 2 ^ (m - (i + 1))) b
product_of-chosen true m k i a b prev t out lt e held et bit eo =
    let is : a / 2 ^ (m - (i + 1)) % 2 ≡ 1 = rw e at (bit.0 refl) in
    eo ∙ (rw is at (product_of-step m i a b prev t lt held et))
product_of-chosen false m k i a b prev t out lt e held et bit eo =
    let even : a / 2 ^ k % 2 ≡ 0 = by_parity (a / 2 ^ k) (λ h. false≢true (bit.1 h)) in
    eo ∙ sym (xor_zero_r t) ∙ (rw (rw e at even) at (product_of-step m i a b prev t lt held et))
  where
    by_parity : (n : ℕ) → (n % 2 ≡ 1 → ⊥) → n % 2 ≡ 0
    by_parity n h = elim (cases_lt (n % 2) 1) [ inl l ↦ omega arith | inr g ↦ absurd (h (omega arith)) ]

grown : (a p q : ℕ) → 0 < p → a < q → a < p * q
grown a p q h l = grind arith

-- a factor of few coefficients takes as few steps
pub product_of-few : (j k a b : ℕ) → a < 2 ^ k → product_of 128 reduction_block (j + k) a b ≡ product_of 128 reduction_block k a b
product_of-few zero k a b h =
    let z : 0 + k ≡ k = omega arith in
    rw z refl
product_of-few (suc j) k a b h =
    let z : suc j + k ≡ suc (j + k) = omega arith in
    rw z (product_of-more 128 reduction_block (j + k) a b (wide j k h) ∙ product_of-few j k a b h)
  where
    wide : (j k : ℕ) → a < 2 ^ k → a < 2 ^ (j + k)
    wide j k l =
        let e : 2 ^ (j + k) ≡ 2 ^ j * 2 ^ k = pow-add 2 j k in
        let p : 0 < 2 ^ j = pow_pos j in
        rw e (grown a (2 ^ j) (2 ^ k) p l)

-- x·p by a choice on the highest coefficient
pub times_x-chosen : (passes : Bool) (p lo out : ℕ) → p < 2 ^ 128 → IsTrue passes ↔ (p / 2 ^ 127 % 2 ≡ 1) → lo ≡ p * 2 % 2 ^ 128 → out ≡ (if passes then bit_xor lo reduction_block else lo)
    → out ≡ times_x 128 reduction_block p
times_x-chosen true p lo out lt bit el eo =
    let high : p / 2 ^ 127 % 2 ≡ 1 = bit.0 refl in
    let same : lo ≡ 2 * p - 2 ^ 128 = omega arith in
    eo ∙ ap (λ (k : ℕ). bit_xor k reduction_block) same ∙ sym (times_x-high 128 reduction_block p (omega arith))
times_x-chosen false p lo out lt bit el eo =
    let low : p < 2 ^ 127 = elim (cases_lt p (2 ^ 127)) [ inl l ↦ l | inr g ↦ absurd (false≢true (bit.1 (omega arith))) ] in
    let same : lo ≡ 2 * p = omega arith in
    eo ∙ same ∙ sym (times_x-low 128 reduction_block p low)

-- ---- blocks

pub length-padded : (x : List ℕ) → length (padded x) ≡ 16 * div_ceil (length x) 16
unfolding padded
length-padded x =
    omega (arith, length-append x (replicate ((16 - length x % 16) % 16) 0), length-replicate {A = ℕ} ((16 - length x % 16) % 16) 0)

-- a block of padded data, from what the data still has
pub padded-block : (x b : List ℕ) (start count : ℕ) → start < length x → start % 16 ≡ 0 → count ≡ length x - start → count < 16
    → b ≡ drop start x ++ replicate (16 - count) 0 → b ≡ take 16 (drop start (padded x))
unfolding padded
padded-block x b start count lt whole ec short eb =
    let zeros : (16 - length x % 16) % 16 ≡ 16 - count = omega arith in
    let tail : drop start (padded x) ≡ b = drop-append-le start x (replicate ((16 - length x % 16) % 16) 0) (omega arith) ∙ rw zeros (sym eb) in
    let len : length b ≡ 16 = ap length eb ∙ omega (arith, length-append (drop start x) (replicate (16 - count) 0), length-drop start x, length-replicate {A = ℕ} (16 - count) 0) in
    sym (ap (take 16) tail ∙ take_all 16 b (omega arith))

pub padded-whole : (x b : List ℕ) (start : ℕ) → start + 16 ≤ length x → b ≡ take 16 (drop start x) → b ≡ take 16 (drop start (padded x))
unfolding padded
padded-whole x b start fits eb =
    let zeros : List ℕ = replicate ((16 - length x % 16) % 16) 0 in
    eb ∙ sym (ap (take 16) (drop-append-le start x zeros (omega arith)) ∙ take-append-le 16 (drop start x) zeros (omega (arith, length-drop start x)))

polynomials-next : (m : ℕ) (x : List ℕ) → polynomials (suc m) x ≡ polynomial_of (take 16 x) ∷ polynomials m (drop 16 x)
unfolding polynomials
polynomials-next m x = refl

polynomials-none : (x : List ℕ) → polynomials 0 x ≡ []
unfolding polynomials
polynomials-none x = refl

pub polynomials-append : (m n : ℕ) (x y : List ℕ) → length x ≡ 16 * m → polynomials (m + n) (x ++ y) ≡ polynomials m x ++ polynomials n y
polynomials-append zero n x y len =
    let none : x ≡ [] = nil_from_length x (omega arith) in
    let e : 0 + n ≡ n = omega arith in
    rw (none, e) (ap (λ (z : List ℕ). z ++ polynomials n y) (sym (polynomials-none [])))
polynomials-append (suc m) n x y len =
    let e : suc m + n ≡ suc (m + n) = omega arith in
    let front : take 16 (x ++ y) ≡ take 16 x = take-append-le 16 x y (omega arith) in
    let rest : drop 16 (x ++ y) ≡ drop 16 x ++ y = drop-append-le 16 x y (omega arith) in
    ap (λ (k : ℕ). polynomials k (x ++ y)) e ∙ polynomials-next (m + n) (x ++ y)
    ∙ ap (λ (z : List ℕ). polynomial_of z ∷ polynomials (m + n) (drop 16 (x ++ y))) front
    ∙ ap (λ (z : List ℕ). polynomial_of (take 16 x) ∷ polynomials (m + n) z) rest
    ∙ ap (λ (z : List ℕ). polynomial_of (take 16 x) ∷ z) (polynomials-append m n (drop 16 x) y (omega (arith, length-drop 16 x)))
    ∙ ap (λ (z : List ℕ). z ++ polynomials n y) (sym (polynomials-next m x))

-- the sum one block on
pub continued-step : (h y z i m : ℕ) (p block : List ℕ) → h < 2 ^ 128 → i < m → block ≡ take 16 (drop (16 * i) p) → z ≡ block_product (bit_xor y (polynomial_of block)) h
    → continued h z (polynomials (m - (i + 1)) (drop (16 * (i + 1)) p)) ≡ continued h y (polynomials (m - i) (drop (16 * i) p))
continued-step h y z i m p block l lt eb ez =
    let x : List ℕ = drop (16 * i) p in
    let count : m - i ≡ suc (m - (i + 1)) = omega arith in
    let rest : drop 16 x ≡ drop (16 * (i + 1)) p = drop-drop 16 (16 * i) p ∙ ap (λ (k : ℕ). drop k p) (omega arith) in
    let blocks : polynomials (m - i) x ≡ polynomial_of block ∷ polynomials (m - (i + 1)) (drop (16 * (i + 1)) p) =
    ap (λ (k : ℕ). polynomials k x) count ∙ polynomials-next (m - (i + 1)) x ∙ ap (λ (b : List ℕ). polynomial_of b ∷ polynomials (m - (i + 1)) (drop 16 x)) (sym eb)
    ∙ ap (λ (q : List ℕ). polynomial_of block ∷ polynomials (m - (i + 1)) q) rest in
    sym (ap (continued h y) blocks ∙ continued-next h y (polynomial_of block) (polynomials (m - (i + 1)) (drop (16 * (i + 1)) p)) l
    ∙ ap (λ (k : ℕ). continued h k (polynomials (m - (i + 1)) (drop (16 * (i + 1)) p))) (sym ez))

-- the sum two blocks on
pub continued-two : (h y z i m : ℕ) (p first second : List ℕ) → h < 2 ^ 128 → 2 * i + 1 < m → first ≡ take 16 (drop (16 * (2 * i)) p) → second ≡ take 16 (drop (16 * (2 * i + 1)) p)
    → z ≡ block_product (bit_xor (block_product (bit_xor y (polynomial_of first)) h) (polynomial_of second)) h
    → continued h z (polynomials (m - 2 * (i + 1)) (drop (16 * (2 * (i + 1))) p)) ≡ continued h y (polynomials (m - 2 * i) (drop (16 * (2 * i)) p))
continued-two h y z i m p first second l lt ef es ez =
    let t : ℕ = block_product (bit_xor y (polynomial_of first)) h in
    let count : 2 * (i + 1) ≡ 2 * i + 1 + 1 = omega arith in
    ap (λ (k : ℕ). continued h z (polynomials (m - k) (drop (16 * k) p))) count
    ∙ continued-step h t z (2 * i + 1) m p second l lt es ez
    ∙ continued-step h y t (2 * i) m p first l (omega arith) ef refl

-- the sum at the end of the blocks
pub continued-done : (h y i m : ℕ) (p : List ℕ) → y < 2 ^ 128 → i ≡ m → continued h y (polynomials (m - i) (drop (16 * i) p)) ≡ y
continued-done h y i m p l e =
    let none : m - i ≡ 0 = omega arith in
    ap (λ (k : ℕ). continued h y (polynomials k (drop (16 * i) p))) none ∙ ap (continued h y) (polynomials-none (drop (16 * i) p)) ∙ continued-none h y l

-- the blocks of all that is authenticated
authenticated-blocks : (aad c : List ℕ) → polynomials (length (authenticated aad c) / 16) (authenticated aad c)
    ≡ (polynomials (div_ceil (length aad) 16) (padded aad) ++ polynomials (div_ceil (length c) 16) (padded c))
    ++ polynomial_of (to_be_bytes w64 (8 * length aad) ++ to_be_bytes w64 (8 * length c)) ∷ []
unfolding authenticated
authenticated-blocks aad c =
    let m : ℕ = div_ceil (length aad) 16 in
    let n : ℕ = div_ceil (length c) 16 in
    let l : List ℕ = to_be_bytes w64 (8 * length aad) ++ to_be_bytes w64 (8 * length c) in
    let texts : List ℕ = padded aad ++ padded c in
    let whole : authenticated aad c ≡ texts ++ l = append_assoc texts (to_be_bytes w64 (8 * length aad)) (to_be_bytes w64 (8 * length c)) in
    let len : length texts ≡ 16 * (m + n) = length-append (padded aad) (padded c) ∙ omega (arith, length-padded aad, length-padded c) in
    let all : length (texts ++ l) ≡ 16 * (m + n) + 16 = length-append texts l ∙ ap (λ (k : ℕ). k + 16) len in
    let count : length (texts ++ l) / 16 ≡ (m + n) + 1 = omega arith in
    let last : polynomials 1 l ≡ polynomial_of l ∷ [] = polynomials-next 0 l ∙ ap (λ (z : List ℕ). polynomial_of l ∷ z) (polynomials-none (drop 16 l)) in
    ap (λ (x : List ℕ). polynomials (length x / 16) x) whole ∙ ap (λ (k : ℕ). polynomials k (texts ++ l)) count
    ∙ polynomials-append (m + n) 1 texts l len ∙ ap (λ (z : List ℕ). z ++ polynomials 1 l) (polynomials-append m n (padded aad) (padded c) (length-padded aad))
    ∙ ap (λ (z : List ℕ). (polynomials m (padded aad) ++ polynomials n (padded c)) ++ z) last

-- the three pieces, one after another
pub continued-authenticated : (h s t u : ℕ) (aad c l : List ℕ) → h < 2 ^ 128 → s ≡ continued h 0 (polynomials (div_ceil (length aad) 16) (padded aad))
    → t ≡ continued h s (polynomials (div_ceil (length c) 16) (padded c)) → l ≡ to_be_bytes w64 (8 * length aad) ++ to_be_bytes w64 (8 * length c)
    → t < 2 ^ 128 → u ≡ block_product (bit_xor t (polynomial_of l)) h
    → u ≡ weighted_sum h (polynomials (length (authenticated aad c) / 16) (authenticated aad c))
continued-authenticated h s t u aad c l lh es et el lt eu =
    let a : List ℕ = polynomials (div_ceil (length aad) 16) (padded aad) in
    let b : List ℕ = polynomials (div_ceil (length c) 16) (padded c) in
    let two : t ≡ continued h 0 (a ++ b) = et ∙ ap (λ (k : ℕ). continued h k b) es ∙ continued-append h 0 a b lh (omega arith) in
    let lu : u < 2 ^ 128 = rw eu (block_product-lt (bit_xor t (polynomial_of l)) h lh) in
    let three : u ≡ continued h t (polynomial_of l ∷ []) =
    sym (continued-next h t (polynomial_of l) [] lh ∙ ap (λ (k : ℕ). continued h k []) (sym eu) ∙ continued-none h u lu) in
    three ∙ ap (λ (k : ℕ). continued h k (polynomial_of l ∷ [])) two ∙ continued-append h 0 (a ++ b) (polynomial_of l ∷ []) lh (omega arith)
    ∙ continued-zero h ((a ++ b) ++ polynomial_of l ∷ []) ∙ ap (λ (z : List ℕ). weighted_sum h ((a ++ b) ++ polynomial_of z ∷ [])) el
    ∙ ap (weighted_sum h) (sym (authenticated-blocks aad c))

-- ---- a text in parts

-- whole blocks before a text take none of its zeros
pub padded-append : (x y : List ℕ) → length x % 16 ≡ 0 → padded (x ++ y) ≡ x ++ padded y
unfolding padded
padded-append x y whole =
    let same : (16 - length (x ++ y) % 16) % 16 ≡ (16 - length y % 16) % 16 = omega (arith, length-append x y) in
    ap (λ (k : ℕ). (x ++ y) ++ replicate k 0) same ∙ append_assoc x y (replicate ((16 - length y % 16) % 16) 0)

-- whole blocks have no zeros behind them
pub padded-blocks : (x : List ℕ) → length x % 16 ≡ 0 → padded x ≡ x
unfolding padded
padded-blocks x whole =
    let none : (16 - length x % 16) % 16 ≡ 0 = omega arith in
    ap (λ (k : ℕ). x ++ replicate k 0) none ∙ append-nil x

-- the sum over whole blocks
pub continued-blocks : (h y : ℕ) (x : List ℕ) → length x % 16 ≡ 0
    → continued h y (polynomials (div_ceil (length x) 16) (padded x)) ≡ continued h y (polynomials (length x / 16) x)
continued-blocks h y x whole =
    let count : div_ceil (length x) 16 ≡ length x / 16 = omega arith in
    ap (λ (k : ℕ). continued h y (polynomials k (padded x))) count ∙ ap (λ (z : List ℕ). continued h y (polynomials (length x / 16) z)) (padded-blocks x whole)

-- the sum over more whole blocks
pub continued-more : (h y m n : ℕ) (a b : List ℕ) → h < 2 ^ 128 → y < 2 ^ 128 → length a ≡ 16 * m
    → continued h (continued h y (polynomials m a)) (polynomials n b) ≡ continued h y (polynomials (m + n) (a ++ b))
continued-more h y m n a b lh ly len =
    continued-append h y (polynomials m a) (polynomials n b) lh ly ∙ ap (continued h y) (sym (polynomials-append m n a b len))

-- the sum over what is left behind whole blocks
pub continued-rest : (h y : ℕ) (a r : List ℕ) → h < 2 ^ 128 → y < 2 ^ 128 → length a % 16 ≡ 0
    → continued h (continued h y (polynomials (length a / 16) a)) (polynomials (div_ceil (length r) 16) (padded r))
    ≡ continued h y (polynomials (div_ceil (length (a ++ r)) 16) (padded (a ++ r)))
continued-rest h y a r lh ly whole =
    let m : ℕ = length a / 16 in
    let n : ℕ = div_ceil (length r) 16 in
    let count : div_ceil (length (a ++ r)) 16 ≡ m + n = omega (arith, length-append a r) in
    continued-more h y m n a (padded r) lh ly (omega arith)
    ∙ sym (ap (λ (k : ℕ). continued h y (polynomials k (padded (a ++ r)))) count ∙ ap (λ (z : List ℕ). continued h y (polynomials (m + n) z)) (padded-append a r whole))

-- the sum over no blocks
pub continued-empty : (h y : ℕ) (x : List ℕ) → y < 2 ^ 128 → continued h y (polynomials 0 x) ≡ y
continued-empty h y x l = ap (continued h y) (polynomials-none x) ∙ continued-none h y l
