-- The laws of a field of binary polynomials: products are additive on both sides and associative.
use Rattle.std.proofs.Common.{◌≡◌, ℕ, zero, suc, ◌+◌, ◌-◌, ◌*◌, ◌/◌, ◌%◌, ◌^◌, ◌<◌, ◌≤◌, Bool, true, false, refl, sym, ap, ◌∙◌, add-one, arith, inl, inr}
use Rattle.std.specs.Prelude.{bit_xor, ◌==◌, if◌then◌else◌}
use Rattle.std.proofs.Math.Nat.{pow-succ'}
use Rattle.std.proofs.lemmas.Bool.{cases_lt}
use Rattle.std.proofs.lemmas.Bool.Decides.{nat_tests}
use Rattle.std.proofs.lemmas.Nat.{xor_block, xor_shr, xor_mod, xor_lt, shr_high, mod_low, mod_below, pow_pos, shr_below, pow_below}
use lib.Bits.{xor_shifted, xor_zero_r, xor_assoc, xor_comm, xor_self}
use Rattle.gcm_core.specs.FieldMul.{product_of, times_x}

-- b where the bit q is 1
abbrev pub picked : ℕ → ℕ → ℕ
picked q b = if q == 1 then b else 0

-- ---- sums

-- b + c + d + e, with the middle two exchanged
pub xor-swap : (b c d e : ℕ) → bit_xor (bit_xor b c) (bit_xor d e) ≡ bit_xor (bit_xor b d) (bit_xor c e)
xor-swap b c d e =
    xor_assoc b c (bit_xor d e) ∙ ap (bit_xor b) (sym (xor_assoc c d e) ∙ ap (λ (k : ℕ). bit_xor k e) (xor_comm c d) ∙ xor_assoc d c e)
    ∙ sym (xor_assoc b d (bit_xor c e))

-- two sums, each taken apart
xor-parts : (x y s t u v p q : ℕ) → x ≡ bit_xor s t → y ≡ bit_xor u v → p ≡ bit_xor s u → q ≡ bit_xor t v → bit_xor p q ≡ bit_xor x y
xor-parts x y s t u v p q ex ey ep eq = rw (ex, ey, ep, eq) (xor-swap s u t v)

xor-double : (b c : ℕ) → bit_xor (2 * b) (2 * c) ≡ 2 * bit_xor b c
xor-double b c =
    let e : bit_xor (b * 2 ^ 1 + 0) (c * 2 ^ 1 + 0) ≡ bit_xor b c * 2 ^ 1 + bit_xor 0 0 = xor_block 1 b c 0 0 (omega arith) (omega arith) in
    let eb : b * 2 ^ 1 + 0 ≡ 2 * b = omega arith in
    let ec : c * 2 ^ 1 + 0 ≡ 2 * c = omega arith in
    (rw (eb, ec) at e) ∙ omega arith

-- 2·b + q, for a bit q
xor-double_bit : (b q : ℕ) → q < 2 → bit_xor (2 * b) q ≡ 2 * b + q
xor-double_bit b q h =
    let e : bit_xor (b * 2 ^ 1 + 0) (0 * 2 ^ 1 + q) ≡ bit_xor b 0 * 2 ^ 1 + bit_xor 0 q = xor_block 1 b 0 0 q (omega arith) h in
    let eb : b * 2 ^ 1 + 0 ≡ 2 * b = omega arith in
    let eq : 0 * 2 ^ 1 + q ≡ q = omega arith in
    (rw (eb, eq, xor_zero_r b) at e) ∙ omega arith

picked-xor : (p q b : ℕ) → p < 2 → q < 2 → picked (bit_xor p q) b ≡ bit_xor (picked p b) (picked q b)
picked-xor p q b hp hq = elim (cases_lt p 1) [
  | inl p0 ↦
      let e : p ≡ 0 = omega arith in
      rw e refl
  | inr p1 ↦
      let e : p ≡ 1 = omega arith in
      elim (cases_lt q 1) [
        | inl q0 ↦
            let f : q ≡ 0 = omega arith in
            rw (e, f) (sym (xor_zero_r b))
        | inr q1 ↦
            let f : q ≡ 1 = omega arith in
            rw (e, f) (sym (xor_self b))
      ]
]

picked-of_xor : (q b c : ℕ) → picked q (bit_xor b c) ≡ bit_xor (picked q b) (picked q c)
picked-of_xor q b c = elim (q == 1) as (λ (t : Bool). (if t then bit_xor b c else 0) ≡ bit_xor (if t then b else 0) (if t then c else 0)) [ true ↦ refl | false ↦ refl ]

picked-lt : (q b n : ℕ) → b < 2 ^ n → picked q b < 2 ^ n
picked-lt q b n h = elim (q == 1) as (λ (t : Bool). (if t then b else 0) < 2 ^ n) [ true ↦ h | false ↦ pow_pos n ]

picked-zero : (q : ℕ) → picked q 0 ≡ 0
picked-zero q = elim (q == 1) as (λ (t : Bool). let z : ℕ = 0 in (if t then z else z) ≡ z) [ true ↦ refl | false ↦ refl ]

picked-one : (q : ℕ) → q < 2 → picked q 1 ≡ q
picked-one q h = elim (cases_lt q 1) [
  | inl lt ↦
      let e : q ≡ 0 = omega arith in
      rw e refl
  | inr ge ↦
      let e : q ≡ 1 = omega arith in
      rw e refl
]

pow_le : (j k : ℕ) → j ≤ k → 2 ^ j ≤ 2 ^ k
pow_le j k h = elim (cases_lt j k) [
  | inl lt ↦ omega (arith, pow_below j k lt)
  | inr ge ↦
      let e : j ≡ k = omega arith in
      rw e (omega arith)
]

lt_of_lt_of_le : {a b c : ℕ} → a < b → b ≤ c → a < c
lt_of_lt_of_le h k = omega arith

-- a function that fixes 0 goes past the choice
picked-under : (f : ℕ → ℕ) (q b : ℕ) → f 0 ≡ 0 → f (picked q b) ≡ picked q (f b)
picked-under f q b z = elim (q == 1) as (λ (t : Bool). f (if t then b else 0) ≡ (if t then f b else 0)) [ true ↦ refl | false ↦ z ]

-- ---- times x

top : (n : ℕ) → 1 ≤ n → 2 ^ n ≡ 2 * 2 ^ (n - 1)
top n h =
    let e : suc (n - 1) ≡ n = omega arith in
    rw e at (pow-succ' 2 (n - 1))

-- a polynomial's highest place, and the rest
top-low : (k b : ℕ) → b < 2 ^ k → (b / 2 ^ k ≡ 0) × (b % 2 ^ k ≡ b)
top-low k b h =
    let e : 0 * 2 ^ k + b ≡ b = omega arith in
    (rw e at (shr_high 0 k b h), rw e at (mod_low 0 k b h))

top-high : (k b : ℕ) → 2 ^ k ≤ b → b < 2 * 2 ^ k → (b / 2 ^ k ≡ 1) × (b % 2 ^ k ≡ b - 2 ^ k)
top-high k b h l =
    let e : 1 * 2 ^ k + (b - 2 ^ k) ≡ b = omega arith in
    let low : b - 2 ^ k < 2 ^ k = omega arith in
    (rw e at (shr_high 1 k (b - 2 ^ k) low), rw e at (mod_low 1 k (b - 2 ^ k) low))

pub times_x-low : (n r b : ℕ) → b < 2 ^ (n - 1) → times_x n r b ≡ 2 * b
unfolding times_x
times_x-low n r b h = grind (arith, nat_tests)

pub times_x-high : (n r b : ℕ) → 2 ^ (n - 1) ≤ b → times_x n r b ≡ bit_xor (2 * b - 2 ^ n) r
unfolding times_x
times_x-high n r b h = grind (arith, nat_tests)

-- the highest coefficient apart from the others
times_x-parts : (n r b : ℕ) → 1 ≤ n → b < 2 ^ n → times_x n r b ≡ bit_xor (2 * (b % 2 ^ (n - 1))) (picked (b / 2 ^ (n - 1)) r)
times_x-parts n r b h l = elim (cases_lt b (2 ^ (n - 1))) [
  | inl lt ↦
      let t = top-low (n - 1) b lt in
      rw (t.0, t.1) (times_x-low n r b lt ∙ sym (xor_zero_r (2 * b)))
  | inr ge ↦
      let w : 2 ^ n ≡ 2 * 2 ^ (n - 1) = top n h in
      let t = top-high (n - 1) b ge (omega arith) in
      let e : 2 * b - 2 ^ n ≡ 2 * (b - 2 ^ (n - 1)) = omega arith in
      rw (t.0, t.1) (times_x-high n r b ge ∙ ap (λ (k : ℕ). bit_xor k r) e)
]

pub times_x-lt : (n r b : ℕ) → 1 ≤ n → r < 2 ^ n → b < 2 ^ n → times_x n r b < 2 ^ n
times_x-lt n r b h hr hb =
    let w : 2 ^ n ≡ 2 * 2 ^ (n - 1) = top n h in
    let m : b % 2 ^ (n - 1) < 2 ^ (n - 1) = mod_below b (2 ^ (n - 1)) (pow_pos (n - 1)) in
    rw (times_x-parts n r b h hb) (xor_lt n (2 * (b % 2 ^ (n - 1))) (picked (b / 2 ^ (n - 1)) r) (omega arith) (picked-lt (b / 2 ^ (n - 1)) r n hr))

top-bit : (n b : ℕ) → 1 ≤ n → b < 2 ^ n → b / 2 ^ (n - 1) < 2
top-bit n b h l =
    let e : 1 + (n - 1) ≡ n = omega arith in
    shr_below b 1 (n - 1) (rw e l)

pub times_x-xor : (n r b c : ℕ) → 1 ≤ n → b < 2 ^ n → c < 2 ^ n → times_x n r (bit_xor b c) ≡ bit_xor (times_x n r b) (times_x n r c)
times_x-xor n r b c h hb hc =
    let k : ℕ = n - 1 in
    let low : 2 * (bit_xor b c % 2 ^ k) ≡ bit_xor (2 * (b % 2 ^ k)) (2 * (c % 2 ^ k)) =
    ap (λ (z : ℕ). 2 * z) (xor_mod b c k) ∙ sym (xor-double (b % 2 ^ k) (c % 2 ^ k)) in
    let high : picked (bit_xor b c / 2 ^ k) r ≡ bit_xor (picked (b / 2 ^ k) r) (picked (c / 2 ^ k) r) =
    ap (λ (z : ℕ). picked z r) (xor_shr b c k) ∙ picked-xor (b / 2 ^ k) (c / 2 ^ k) r (top-bit n b h hb) (top-bit n c h hc) in
    let pb : ℕ = picked (b / 2 ^ k) r in
    let pc : ℕ = picked (c / 2 ^ k) r in
    times_x-parts n r (bit_xor b c) h (xor_lt n b c hb hc)
    ∙ xor-parts (times_x n r b) (times_x n r c) (2 * (b % 2 ^ k)) pb (2 * (c % 2 ^ k)) pc _ _ (times_x-parts n r b h hb) (times_x-parts n r c h hc) low high

times_x-zero : (n r : ℕ) → times_x n r 0 ≡ 0
times_x-zero n r = times_x-low n r 0 (pow_pos (n - 1))

-- ---- products

pub product_of-next : (n r k a b : ℕ) → product_of n r (suc k) a b ≡ bit_xor (times_x n r (product_of n r k (a / 2) b)) (picked (a % 2) b)
unfolding product_of
product_of-next n r k a b = refl

pub product_of-none : (n r a b : ℕ) → product_of n r 0 a b ≡ 0
unfolding product_of
product_of-none n r a b = refl

pub product_of-lt : (n r k a b : ℕ) → 1 ≤ n → r < 2 ^ n → b < 2 ^ n → product_of n r k a b < 2 ^ n
product_of-lt n r zero a b h hr hb = rw (product_of-none n r a b) (pow_pos n)
product_of-lt n r (suc k) a b h hr hb =
    rw (product_of-next n r k a b)
    (xor_lt n (times_x n r (product_of n r k (a / 2) b)) (picked (a % 2) b) (times_x-lt n r _ h hr (product_of-lt n r k (a / 2) b h hr hb)) (picked-lt (a % 2) b n hb))

-- additive in a
pub product_of-xor : (n r k a d b : ℕ) → 1 ≤ n → r < 2 ^ n → b < 2 ^ n → product_of n r k (bit_xor a d) b ≡ bit_xor (product_of n r k a b) (product_of n r k d b)
product_of-xor n r zero a d b h hr hb = rw (product_of-none n r (bit_xor a d) b, product_of-none n r a b, product_of-none n r d b) refl
product_of-xor n r (suc k) a d b h hr hb =
    let halves : bit_xor a d / 2 ≡ bit_xor (a / 2) (d / 2) = xor_shr a d 1 in
    let bits : bit_xor a d % 2 ≡ bit_xor (a % 2) (d % 2) = xor_mod a d 1 in
    let p : ℕ = product_of n r k (a / 2) b in
    let q : ℕ = product_of n r k (d / 2) b in
    let inner : product_of n r k (bit_xor a d / 2) b ≡ bit_xor p q =
    ap (λ (z : ℕ). product_of n r k z b) halves ∙ product_of-xor n r k (a / 2) (d / 2) b h hr hb in
    let outer : times_x n r (product_of n r k (bit_xor a d / 2) b) ≡ bit_xor (times_x n r p) (times_x n r q) =
    ap (times_x n r) inner ∙ times_x-xor n r p q h (product_of-lt n r k (a / 2) b h hr hb) (product_of-lt n r k (d / 2) b h hr hb) in
    let last : picked (bit_xor a d % 2) b ≡ bit_xor (picked (a % 2) b) (picked (d % 2) b) =
    ap (λ (z : ℕ). picked z b) bits ∙ picked-xor (a % 2) (d % 2) b (omega arith) (omega arith) in
    product_of-next n r k (bit_xor a d) b
    ∙ xor-parts (product_of n r (suc k) a b) (product_of n r (suc k) d b) (times_x n r p) (picked (a % 2) b) (times_x n r q) (picked (d % 2) b) _ _
    (product_of-next n r k a b) (product_of-next n r k d b) outer last

-- additive in b
pub product_of-of_xor : (n r k a b c : ℕ) → 1 ≤ n → r < 2 ^ n → b < 2 ^ n → c < 2 ^ n → product_of n r k a (bit_xor b c) ≡ bit_xor (product_of n r k a b) (product_of n r k a c)
product_of-of_xor n r zero a b c h hr hb hc = rw (product_of-none n r a (bit_xor b c), product_of-none n r a b, product_of-none n r a c) refl
product_of-of_xor n r (suc k) a b c h hr hb hc =
    let p : ℕ = product_of n r k (a / 2) b in
    let q : ℕ = product_of n r k (a / 2) c in
    let outer : times_x n r (product_of n r k (a / 2) (bit_xor b c)) ≡ bit_xor (times_x n r p) (times_x n r q) =
    ap (times_x n r) (product_of-of_xor n r k (a / 2) b c h hr hb hc)
    ∙ times_x-xor n r p q h (product_of-lt n r k (a / 2) b h hr hb) (product_of-lt n r k (a / 2) c h hr hc) in
    product_of-next n r k a (bit_xor b c)
    ∙ xor-parts (product_of n r (suc k) a b) (product_of n r (suc k) a c) (times_x n r p) (picked (a % 2) b) (times_x n r q) (picked (a % 2) c) _ _
    (product_of-next n r k a b) (product_of-next n r k a c) outer (picked-of_xor (a % 2) b c)

-- a·(x·b) is x·(a·b)
pub product_of-times_x : (n r k a b : ℕ) → 1 ≤ n → r < 2 ^ n → b < 2 ^ n → product_of n r k a (times_x n r b) ≡ times_x n r (product_of n r k a b)
product_of-times_x n r zero a b h hr hb = rw (product_of-none n r a (times_x n r b), product_of-none n r a b) (sym (times_x-zero n r))
product_of-times_x n r (suc k) a b h hr hb =
    let p : ℕ = product_of n r k (a / 2) b in
    let lp : p < 2 ^ n = product_of-lt n r k (a / 2) b h hr hb in
    let inner : times_x n r (product_of n r k (a / 2) (times_x n r b)) ≡ times_x n r (times_x n r p) =
    ap (times_x n r) (product_of-times_x n r k (a / 2) b h hr hb) in
    let last : picked (a % 2) (times_x n r b) ≡ times_x n r (picked (a % 2) b) = sym (picked-under (times_x n r) (a % 2) b (times_x-zero n r)) in
    product_of-next n r k a (times_x n r b) ∙ ap (λ (z : ℕ). bit_xor z (picked (a % 2) (times_x n r b))) inner ∙ ap (bit_xor (times_x n r (times_x n r p))) last
    ∙ sym (ap (times_x n r) (product_of-next n r k a b) ∙ times_x-xor n r (times_x n r p) (picked (a % 2) b) h (times_x-lt n r p h hr lp) (picked-lt (a % 2) b n hb))

-- 0·b, and places of a that hold no coefficient
pub product_of-zero : (n r k b : ℕ) → product_of n r k 0 b ≡ 0
product_of-zero n r zero b = product_of-none n r 0 b
product_of-zero n r (suc k) b =
    product_of-next n r k 0 b ∙ xor_zero_r (times_x n r (product_of n r k 0 b)) ∙ ap (times_x n r) (product_of-zero n r k b) ∙ times_x-zero n r

pub product_of-more : (n r k a b : ℕ) → a < 2 ^ k → product_of n r (suc k) a b ≡ product_of n r k a b
product_of-more n r zero a b h =
    let e : a ≡ 0 = omega arith in
    rw e (product_of-zero n r 1 b ∙ sym (product_of-zero n r 0 b))
product_of-more n r (suc k) a b h =
    let half : a / 2 < 2 ^ k = shr_below a k 1 (rw (add-one k) h) in
    product_of-next n r (suc k) a b ∙ ap (λ (z : ℕ). bit_xor (times_x n r z) (picked (a % 2) b)) (product_of-more n r k (a / 2) b half) ∙ sym (product_of-next n r k a b)

-- (x·a)·b, where a leaves room
pub product_of-doubled : (n r k a b : ℕ) → product_of n r (suc k) (2 * a) b ≡ times_x n r (product_of n r k a b)
product_of-doubled n r k a b =
    let half : 2 * a / 2 ≡ a = omega arith in
    let even : 2 * a % 2 ≡ 0 = omega arith in
    product_of-next n r k (2 * a) b ∙ rw (half, even) (xor_zero_r _)

-- ---- the whole field

-- 1·b
pub product_of-one : (n r k b : ℕ) → product_of n r (suc k) 1 b ≡ b
product_of-one n r k b = product_of-next n r k 1 b ∙ ap (λ (z : ℕ). bit_xor z b) (ap (times_x n r) (product_of-zero n r k b) ∙ times_x-zero n r)

-- a·1
pub product_of-by_one : (n r k a : ℕ) → k ≤ n → a < 2 ^ k → product_of n r k a 1 ≡ a
product_of-by_one n r zero a h l = product_of-none n r a 1 ∙ omega arith
product_of-by_one n r (suc k) a h l =
    let half : a / 2 < 2 ^ k = shr_below a k 1 (rw (add-one k) l) in
    let room : a / 2 < 2 ^ (n - 1) = lt_of_lt_of_le half (pow_le k (n - 1) (omega arith)) in
    let bit : picked (a % 2) 1 ≡ a % 2 = picked-one (a % 2) (omega arith) in
    product_of-next n r k a 1 ∙ ap (λ (z : ℕ). bit_xor (times_x n r z) (picked (a % 2) 1)) (product_of-by_one n r k (a / 2) (omega arith) half)
    ∙ ap (λ (z : ℕ). bit_xor z (picked (a % 2) 1)) (times_x-low n r (a / 2) room) ∙ ap (bit_xor (2 * (a / 2))) bit ∙ xor-double_bit (a / 2) (a % 2) (omega arith) ∙ omega arith

-- x^n·c is r·c, for each c, where it is so for c = 1
pub record Reduces (n r : ℕ) : Type 0 where
  pub some : 1 ≤ n
  pub small : r < 2 ^ n
  pub at_one : product_of n r n r 1 ≡ times_x n r (product_of n r n (2 ^ (n - 1)) 1)

reduces-xor : (n r b c : ℕ) → Reduces n r → b < 2 ^ n → c < 2 ^ n → product_of n r n r b ≡ times_x n r (product_of n r n (2 ^ (n - 1)) b)
    → product_of n r n r c ≡ times_x n r (product_of n r n (2 ^ (n - 1)) c) → product_of n r n r (bit_xor b c) ≡ times_x n r (product_of n r n (2 ^ (n - 1)) (bit_xor b c))
reduces-xor n r b c f hb hc eb ec =
    let top : ℕ = 2 ^ (n - 1) in
    product_of-of_xor n r n r b c f.some f.small hb hc ∙ ap (λ (z : ℕ). bit_xor z (product_of n r n r c)) eb ∙ ap (bit_xor (times_x n r (product_of n r n top b))) ec
    ∙ sym (ap (times_x n r) (product_of-of_xor n r n top b c f.some f.small hb hc)
    ∙ times_x-xor n r (product_of n r n top b) (product_of n r n top c) f.some (product_of-lt n r n top b f.some f.small hb) (product_of-lt n r n top c f.some f.small hc))

reduces-times_x : (n r c : ℕ) → Reduces n r → c < 2 ^ n → product_of n r n r c ≡ times_x n r (product_of n r n (2 ^ (n - 1)) c)
    → product_of n r n r (times_x n r c) ≡ times_x n r (product_of n r n (2 ^ (n - 1)) (times_x n r c))
reduces-times_x n r c f hc e =
    product_of-times_x n r n r c f.some f.small hc ∙ ap (times_x n r) e ∙ ap (times_x n r) (sym (product_of-times_x n r n (2 ^ (n - 1)) c f.some f.small hc))

product_of-by_zero : (n r k a : ℕ) → product_of n r k a 0 ≡ 0
product_of-by_zero n r zero a = product_of-none n r a 0
product_of-by_zero n r (suc k) a =
    product_of-next n r k a 0 ∙ ap (bit_xor (times_x n r (product_of n r k (a / 2) 0))) (picked-zero (a % 2))
    ∙ xor_zero_r (times_x n r (product_of n r k (a / 2) 0)) ∙ ap (times_x n r) (product_of-by_zero n r k (a / 2)) ∙ times_x-zero n r

reduces-zero : (n r a d : ℕ) → product_of n r n a 0 ≡ times_x n r (product_of n r n d 0)
reduces-zero n r a d = product_of-by_zero n r n a ∙ sym (ap (times_x n r) (product_of-by_zero n r n d) ∙ times_x-zero n r)

reduces : (n r k c : ℕ) → Reduces n r → k ≤ n → c < 2 ^ k → product_of n r n r c ≡ times_x n r (product_of n r n (2 ^ (n - 1)) c)
reduces n r zero c f h l =
    let e : c ≡ 0 = omega arith in
    rw e (reduces-zero n r r (2 ^ (n - 1)))
reduces n r (suc k) c f h l =
    let half : c / 2 < 2 ^ k = shr_below c k 1 (rw (add-one k) l) in
    let room : c / 2 < 2 ^ (n - 1) = lt_of_lt_of_le half (pow_le k (n - 1) (omega arith)) in
    let fits : c / 2 < 2 ^ n = lt_of_lt_of_le half (pow_le k n (omega arith)) in
    let parts : bit_xor (times_x n r (c / 2)) (c % 2) ≡ c =
    ap (λ (z : ℕ). bit_xor z (c % 2)) (times_x-low n r (c / 2) room) ∙ xor-double_bit (c / 2) (c % 2) (omega arith) ∙ omega arith in
    let front : product_of n r n r (times_x n r (c / 2)) ≡ times_x n r (product_of n r n (2 ^ (n - 1)) (times_x n r (c / 2))) =
    reduces-times_x n r (c / 2) f fits (reduces n r k (c / 2) f (omega arith) half) in
    let bit : product_of n r n r (c % 2) ≡ times_x n r (product_of n r n (2 ^ (n - 1)) (c % 2)) = elim (cases_lt (c % 2) 1) [
      | inl lt ↦
          let e : c % 2 ≡ 0 = omega arith in
          rw e (reduces-zero n r r (2 ^ (n - 1)))
      | inr ge ↦
          let e : c % 2 ≡ 1 = omega arith in
          rw e f.at_one
    ] in
    let small : c % 2 < 2 ^ n = lt_of_lt_of_le (mod_below c 2 (omega arith)) (pow_le 1 n f.some) in
    rw parts at (reduces-xor n r (times_x n r (c / 2)) (c % 2) f (times_x-lt n r (c / 2) f.some f.small fits) small front bit)

-- (x·b)·c is x·(b·c)
product_of-times_x_first : (n r b c : ℕ) → Reduces n r → b < 2 ^ n → c < 2 ^ n → product_of n r n (times_x n r b) c ≡ times_x n r (product_of n r n b c)
product_of-times_x_first n r b c f hb hc =
    let k : ℕ = n - 1 in
    let width : n ≡ suc k = omega (arith, f.some) in
    -- below the highest place
    let low : (a : ℕ) → a < 2 ^ k → product_of n r n (2 * a) c ≡ times_x n r (product_of n r n a c) =
    λ a h.
    let doubled : product_of n r n (2 * a) c ≡ times_x n r (product_of n r k a c) =
    ap (λ (m : ℕ). product_of n r m (2 * a) c) width ∙ product_of-doubled n r k a c in
    let more : product_of n r n a c ≡ product_of n r k a c = ap (λ (m : ℕ). product_of n r m a c) width ∙ product_of-more n r k a c h in
    doubled ∙ ap (times_x n r) (sym more) in
    elim (cases_lt b (2 ^ k)) [
      | inl lt ↦ ap (λ (z : ℕ). product_of n r n z c) (times_x-low n r b lt) ∙ low b lt
      | inr ge ↦
          let whole : 2 ^ n ≡ 2 * 2 ^ k = top n f.some in
          let rest : ℕ = b - 2 ^ k in
          let below : rest < 2 ^ k = omega arith in
          let fits : rest < 2 ^ n = omega arith in
          let head : 2 ^ k < 2 ^ n = pow_below k n (omega (arith, f.some)) in
          let shifted : 2 * b - 2 ^ n ≡ 2 * rest = omega arith in
          let one : 1 * 2 ^ k ≡ 2 ^ k = omega arith in
          let parts : bit_xor (2 ^ k) rest ≡ b = (rw one at (xor_shifted 1 k rest below)) ∙ omega arith in
          let p : ℕ = product_of n r n rest c in
          let q : ℕ = product_of n r n (2 ^ k) c in
          let lp : p < 2 ^ n = product_of-lt n r n rest c f.some f.small hc in
          let lq : q < 2 ^ n = product_of-lt n r n (2 ^ k) c f.some f.small hc in
          ap (λ (z : ℕ). product_of n r n z c) (times_x-high n r b ge ∙ ap (λ (z : ℕ). bit_xor z r) shifted)
          ∙ product_of-xor n r n (2 * rest) r c f.some f.small hc
          ∙ ap (λ (z : ℕ). bit_xor z (product_of n r n r c)) (low rest below) ∙ ap (bit_xor (times_x n r p)) (reduces n r n c f (omega arith) hc)
          ∙ xor_comm (times_x n r p) (times_x n r q) ∙ sym (times_x-xor n r q p f.some lq lp)
          ∙ ap (times_x n r) (sym (product_of-xor n r n (2 ^ k) rest c f.some f.small hc) ∙ ap (λ (z : ℕ). product_of n r n z c) parts)
    ]

-- (a·b)·c is a·(b·c)
pub product_of_assoc : (n r k a b c : ℕ) → Reduces n r → b < 2 ^ n → c < 2 ^ n → product_of n r n (product_of n r k a b) c ≡ product_of n r k a (product_of n r n b c)
product_of_assoc n r zero a b c f hb hc =
    ap (λ (z : ℕ). product_of n r n z c) (product_of-none n r a b) ∙ product_of-zero n r n c ∙ sym (product_of-none n r a (product_of n r n b c))
product_of_assoc n r (suc k) a b c f hb hc =
    let p : ℕ = product_of n r k (a / 2) b in
    let lp : p < 2 ^ n = product_of-lt n r k (a / 2) b f.some f.small hb in
    let front : product_of n r n (times_x n r p) c ≡ times_x n r (product_of n r k (a / 2) (product_of n r n b c)) =
    product_of-times_x_first n r p c f lp hc ∙ ap (times_x n r) (product_of_assoc n r k (a / 2) b c f hb hc) in
    let last : product_of n r n (picked (a % 2) b) c ≡ picked (a % 2) (product_of n r n b c) =
    picked-under (λ (z : ℕ). product_of n r n z c) (a % 2) b (product_of-zero n r n c) in
    ap (λ (z : ℕ). product_of n r n z c) (product_of-next n r k a b)
    ∙ product_of-xor n r n (times_x n r p) (picked (a % 2) b) c f.some f.small hc
    ∙ ap (λ (z : ℕ). bit_xor z (product_of n r n (picked (a % 2) b) c)) front ∙ ap (bit_xor (times_x n r (product_of n r k (a / 2) (product_of n r n b c)))) last
    ∙ sym (product_of-next n r k a (product_of n r n b c))

-- a·b is b·a
pub product_of_comm : (n r k a b : ℕ) → 1 ≤ n → r < 2 ^ n → k ≤ n → a < 2 ^ k → b < 2 ^ n → product_of n r k a b ≡ product_of n r n b a
product_of_comm n r zero a b h hr hk ha hb =
    let e : a ≡ 0 = omega arith in
    product_of-none n r a b ∙ rw e (sym (product_of-by_zero n r n b))
product_of_comm n r (suc k) a b h hr hk ha hb =
    let half : a / 2 < 2 ^ k = shr_below a k 1 (rw (add-one k) ha) in
    let room : a / 2 < 2 ^ (n - 1) = lt_of_lt_of_le half (pow_le k (n - 1) (omega arith)) in
    let fits : a / 2 < 2 ^ n = lt_of_lt_of_le half (pow_le k n (omega arith)) in
    let small : a % 2 < 2 ^ n = lt_of_lt_of_le (mod_below a 2 (omega arith)) (pow_le 1 n h) in
    let t : ℕ = times_x n r (a / 2) in
    let parts : bit_xor t (a % 2) ≡ a =
    ap (λ (z : ℕ). bit_xor z (a % 2)) (times_x-low n r (a / 2) room) ∙ xor-double_bit (a / 2) (a % 2) (omega arith) ∙ omega arith in
    let front : product_of n r n b t ≡ times_x n r (product_of n r k (a / 2) b) =
    product_of-times_x n r n b (a / 2) h hr fits ∙ ap (times_x n r) (sym (product_of_comm n r k (a / 2) b h hr (omega arith) half hb)) in
    let last : product_of n r n b (a % 2) ≡ picked (a % 2) b = elim (cases_lt (a % 2) 1) [
      | inl lt ↦
          let e : a % 2 ≡ 0 = omega arith in
          rw e (product_of-by_zero n r n b)
      | inr ge ↦
          let e : a % 2 ≡ 1 = omega arith in
          rw e (product_of-by_one n r n b (omega arith) hb)
    ] in
    sym (ap (product_of n r n b) (sym parts) ∙ product_of-of_xor n r n b t (a % 2) h hr (times_x-lt n r (a / 2) h hr fits) small
    ∙ ap (λ (z : ℕ). bit_xor z (product_of n r n b (a % 2))) front ∙ ap (bit_xor (times_x n r (product_of n r k (a / 2) b))) last
    ∙ sym (product_of-next n r k a b))
