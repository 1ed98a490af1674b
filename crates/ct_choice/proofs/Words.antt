-- What masks, selections, borrows and carries of a word of any width are, as numbers.
use Rattle.std.proofs.Common.{◌≡◌, ℕ, zero, suc, ◌+◌, ◌-◌, ◌*◌, ◌/◌, ◌%◌, ◌^◌, ◌<◌, ◌≤◌, Bool, true, false, not, nat_lt, nat_eq, if◌then◌else◌, bit_and, bit_or, refl, sym, ap, ◌∙◌, ◌⊎◌, inl, inr, arith}
use Rattle.std.specs.Int.RustNames.{bit_xor}
use Rattle.std.proofs.lemmas.Nat.{pow_pos, and_mask, xor_lt, or_shr, and_shr, and_comm, div_below, le-div, mod_below}
use Rattle.std.proofs.lemmas.Bool.{cases_lt}
use Rattle.std.proofs.lemmas.Bool.Decides.{nat_tests}
use Rattle.ct_choice.specs.Truth.{xor, bit_of, mask_of}
use lib.Bits.{xor_assoc, xor_self, xor_zero_l, xor_zero_r}
use native.Mathlib.Nat.{pow-suc, mod-eq_of_lt, div-add-mod', add-zero}
use lib.Count.{count_leading_zeros, count_trailing_zeros, leading_of_zero as zeros_above_nothing}

-- `^` of two bits
pub bit_xor_is : (a b : ℕ) → a ≤ 1 → b ≤ 1 → nat_eq (bit_xor a b) 1 ≡ xor (nat_eq a 1) (nat_eq b 1)
bit_xor_is zero zero p q = refl
bit_xor_is zero (suc zero) p q = refl
bit_xor_is (suc zero) zero p q = refl
bit_xor_is (suc zero) (suc zero) p q = refl
bit_xor_is (suc (suc a)) b p q = absurd (omega arith)
bit_xor_is a (suc (suc b)) p q = absurd (omega arith)

-- the masked difference added to the first value gives the first value or the second
pub xor_masked : (width : ℕ) (choice : Bool) (a b : ℕ) → a < 2 ^ width → b < 2 ^ width
    → bit_xor a (bit_and (mask_of width choice) (bit_xor a b)) ≡ (if choice then b else a)
xor_masked width true a b p q =
    ap (bit_xor a) (and_comm (2 ^ width - 1) (bit_xor a b) ∙ and_mask (bit_xor a b) width ∙ mod-eq_of_lt (xor_lt width a b p q))
    ∙ sym (xor_assoc a a b) ∙ ap (λ z. bit_xor z b) (xor_self a) ∙ xor_zero_l b
xor_masked width false a b p q = xor_zero_r a

-- the highest bit of a word of k + 1 bits, as its quotient by 2 ^ k
pub top_bit : (k n : ℕ) → n < 2 ^ suc k → ((n / 2 ^ k ≡ 0) × (n < 2 ^ k)) ⊎ ((n / 2 ^ k ≡ 1) × (2 ^ k ≤ n))
top_bit k n p =
    let double = pow-suc 2 k in let positive = pow_pos k in let below = div_below n (2 ^ k) 2 positive (omega arith) in
    elim (cases_lt n (2 ^ k)) [
      | inl q ↦ let none = div_below n (2 ^ k) 1 positive (omega arith) in inl (omega arith, q)
      | inr q ↦ let one = le-div 1 n (2 ^ k) positive (omega arith) in inr (omega arith, q)
    ]

-- what is left of a sum of two words
pub wrapped : (m s : ℕ) → 0 < m → s < 2 * m → (s ≡ s % m) ⊎ (s ≡ s % m + m)
wrapped m s p q =
    elim (cases_lt s m) [
      | inl h ↦ inl (sym (mod-eq_of_lt h))
      | inr h ↦
          let low = le-div 1 s m p (omega arith) in let high = div_below s m 2 p q in let quotient : s / m ≡ 1 = omega arith in
          inr (sym (div-add-mod' s m) ∙ ap (λ n. n * m + s % m) quotient ∙ omega arith)
    ]

-- what is left of a difference of two words
pub difference_wraps : (m x y : ℕ) → 0 < m → x < m → y ≤ m
    → ((x + (m - y)) % m + y ≡ x) ⊎ ((x + (m - y)) % m + y ≡ x + m)
difference_wraps m x y p hx hy =
    elim (wrapped m (x + (m - y)) p (omega arith)) [ inl e ↦ inr (omega arith) | inr e ↦ inl (omega arith) ]

-- the highest bit of the complement of a word
top_of_not : (k n : ℕ) → n < 2 ^ suc k → ((2 ^ suc k - 1 - n) / 2 ^ k) + (n / 2 ^ k) ≡ 1
top_of_not k n p =
    let double = pow-suc 2 k in
    elim (top_bit k n p) [
      | inl a ↦ elim (top_bit k (2 ^ suc k - 1 - n) (omega arith)) [ inl b ↦ absurd (omega arith) | inr b ↦ omega arith ]
      | inr a ↦ elim (top_bit k (2 ^ suc k - 1 - n) (omega arith)) [ inl b ↦ omega arith | inr b ↦ absurd (omega arith) ]
    ]

-- the borrow bit
pub borrow_top : (k x y borrow d : ℕ) → x < 2 ^ suc k → y < 2 ^ suc k → borrow ≤ 1 → d < 2 ^ suc k
    → (d + (y + borrow) ≡ x) ⊎ (d + (y + borrow) ≡ x + 2 ^ suc k)
    → bit_or (bit_and (2 ^ suc k - 1 - x) y) (bit_and (bit_or (2 ^ suc k - 1 - x) y) d) / 2 ^ k ≡ bit_of (nat_lt x (y + borrow))
borrow_top k x y borrow d hx hy hb hd e =
    let double = pow-suc 2 k in let n = top_of_not k x hx in
    simp (or_shr, and_shr) (grind (arith, nat_tests, top_bit k x hx, top_bit k y hy, top_bit k d hd))

-- the carry bit
pub carry_top : (k x y s : ℕ) → x < 2 ^ suc k → y < 2 ^ suc k → s < 2 ^ suc k
    → (s ≡ x + y) ⊎ (s + 2 ^ suc k ≡ x + y)
    → bit_or (bit_and x y) (bit_and (bit_or x y) (2 ^ suc k - 1 - s)) / 2 ^ k ≡ bit_of (not (nat_lt (x + y) (2 ^ suc k)))
carry_top k x y s hx hy hs e =
    let double = pow-suc 2 k in let n = top_of_not k s hs in
    simp (or_shr, and_shr) (grind (arith, nat_tests, top_bit k x hx, top_bit k y hy, top_bit k s hs))

-- the highest bit of a word or of its negation is set, unless it is 0
pub nonzero_top : (k n m : ℕ) → n < 2 ^ suc k → m < 2 ^ suc k → (m + n) % 2 ^ suc k ≡ 0
    → bit_or n m / 2 ^ k ≡ bit_of (not (nat_eq n 0))
nonzero_top k n m hn hm e =
    let double = pow-suc 2 k in
    let whole = wrapped (2 ^ suc k) (m + n) (pow_pos (suc k)) (omega arith) in
    simp or_shr (grind (arith, nat_tests, top_bit k n hn, top_bit k m hm))

-- the borrow bit of `x - y - borrow`, as a word computes that difference
pub borrow_of_difference : (k x y borrow : ℕ) → x < 2 ^ suc k → y < 2 ^ suc k → borrow ≤ 1
    → bit_or (bit_and (2 ^ suc k - 1 - x) y) (bit_and (bit_or (2 ^ suc k - 1 - x) y) (((x + (2 ^ suc k - y)) % 2 ^ suc k + (2 ^ suc k - borrow)) % 2 ^ suc k)) / 2 ^ k
    ≡ bit_of (nat_lt x (y + borrow))
borrow_of_difference k x y borrow hx hy hb =
    let positive = pow_pos (suc k) in let first = (x + (2 ^ suc k - y)) % 2 ^ suc k in
    let first_fits = mod_below (x + (2 ^ suc k - y)) (2 ^ suc k) positive in
    let first_wraps = difference_wraps (2 ^ suc k) x y positive hx (omega arith) in
    let second_wraps = difference_wraps (2 ^ suc k) first borrow positive first_fits (omega arith) in
    let second_fits = mod_below (first + (2 ^ suc k - borrow)) (2 ^ suc k) positive in
    borrow_top k x y borrow ((first + (2 ^ suc k - borrow)) % 2 ^ suc k) hx hy hb second_fits (grind arith)

-- the borrow bit of `x - y`
pub borrow_of_comparison : (k x y : ℕ) → x < 2 ^ suc k → y < 2 ^ suc k
    → bit_or (bit_and (2 ^ suc k - 1 - x) y) (bit_and (bit_or (2 ^ suc k - 1 - x) y) ((x + (2 ^ suc k - y)) % 2 ^ suc k)) / 2 ^ k
    ≡ bit_of (nat_lt x y)
borrow_of_comparison k x y hx hy =
    let positive = pow_pos (suc k) in
    let wraps = difference_wraps (2 ^ suc k) x y positive hx (omega arith) in
    borrow_top k x y 0 ((x + (2 ^ suc k - y)) % 2 ^ suc k) hx hy (omega arith) (mod_below (x + (2 ^ suc k - y)) (2 ^ suc k) positive) (grind arith)
    ∙ ap (λ n. bit_of (nat_lt x n)) (add-zero y)

-- the carry bit of `x + y`
pub carry_of_sum : (k x y : ℕ) → x < 2 ^ suc k → y < 2 ^ suc k
    → bit_or (bit_and x y) (bit_and (bit_or x y) (2 ^ suc k - 1 - (x + y) % 2 ^ suc k)) / 2 ^ k ≡ bit_of (not (nat_lt (x + y) (2 ^ suc k)))
carry_of_sum k x y hx hy =
    let positive = pow_pos (suc k) in let wraps = wrapped (2 ^ suc k) (x + y) positive (omega arith) in
    carry_top k x y ((x + y) % 2 ^ suc k) hx hy (mod_below (x + y) (2 ^ suc k) positive) (grind arith)

-- counts of zeros in 0
pub leading_of_zero : (width : ℕ) → count_leading_zeros width 0 ≡ width
leading_of_zero = zeros_above_nothing

pub trailing_of_zero : (width : ℕ) → count_trailing_zeros width 0 ≡ width
unfolding count_trailing_zeros
trailing_of_zero zero = refl
trailing_of_zero (suc width) = ap suc (trailing_of_zero width)
