-- Powers of x in GF(2^128): elements moved up by several places, and a number of more than 128 bits
-- brought back into the field.
use Rattle.std.proofs.Common.{◌≡◌, ℕ, zero, suc, ◌+◌, ◌*◌, ◌/◌, ◌%◌, ◌^◌, ◌<◌, refl, sym, ap, ◌∙◌, arith}
use Rattle.std.specs.Prelude.{bit_xor}
use Rattle.std.proofs.Math.Nat.{pow-succ'}
use lib.Bits.{xor_assoc, xor_comm, xor_shifted}
use Rattle.gcm_core.proofs.Fields.{product_of-doubled, product_of-more, product_of-times_x, times_x-low, times_x-lt, times_x-xor}
use Rattle.gcm_core.proofs.Hash.{block_product-by_one, block_product-one, block_product-xor, block_product_comm, reduces_block}
use Rattle.gcm_core.specs.FieldMul.{times_x}
use Rattle.gcm_core.specs.Ghash.{block_product, reduction_block}

-- x^k·e
pub raised : ℕ → ℕ → ℕ
raised zero e = e
raised (suc k) e = times_x 128 reduction_block (raised k e)

pub raised-lt : (k e : ℕ) → e < 2 ^ 128 → raised k e < 2 ^ 128
unfolding raised
raised-lt zero e h = h
raised-lt (suc k) e h = times_x-lt 128 reduction_block (raised k e) reduces_block.some reduces_block.small (raised-lt k e h)

pub raised-xor : (k a b : ℕ) → a < 2 ^ 128 → b < 2 ^ 128 → raised k (bit_xor a b) ≡ bit_xor (raised k a) (raised k b)
unfolding raised
raised-xor zero a b ha hb = refl
raised-xor (suc k) a b ha hb =
    ap (times_x 128 reduction_block) (raised-xor k a b ha hb)
    ∙ times_x-xor 128 reduction_block (raised k a) (raised k b) reduces_block.some (raised-lt k a ha) (raised-lt k b hb)

pub raised-raised : (j k e : ℕ) → raised j (raised k e) ≡ raised (j + k) e
unfolding raised
raised-raised zero k e =
    let z : 0 + k ≡ k = omega arith in
    rw z refl
raised-raised (suc j) k e =
    let z : suc j + k ≡ suc (j + k) = omega arith in
    rw z (ap (times_x 128 reduction_block) (raised-raised j k e))

-- where nothing passes the end
pub raised-low : (k e : ℕ) → e * 2 ^ k < 2 ^ 128 → raised k e ≡ e * 2 ^ k
unfolding raised
raised-low zero e h = omega arith
raised-low (suc k) e h =
    let w : 2 ^ suc k ≡ 2 * 2 ^ k = pow-succ' 2 k in
    let d : e * 2 ^ suc k ≡ 2 * (e * 2 ^ k) = double e (2 ^ suc k) (2 ^ k) w in
    let small : e * 2 ^ k < 2 ^ 127 = omega arith in
    ap (times_x 128 reduction_block) (raised-low k e (omega arith)) ∙ times_x-low 128 reduction_block (e * 2 ^ k) small ∙ sym d
  where
    double : (a p q : ℕ) → p ≡ 2 * q → a * p ≡ 2 * (a * q)
    double a p q e = rw e (grind arith)

pub raised-zero : (k : ℕ) → raised k 0 ≡ 0
raised-zero k = raised-low k 0 (omega arith) ∙ omega arith

-- a product whose first factor has moved up
product-doubled : (a b : ℕ) → a < 2 ^ 127 → block_product (2 * a) b ≡ times_x 128 reduction_block (block_product a b)
unfolding block_product
product-doubled a b h =
    product_of-doubled 128 reduction_block 127 a b ∙ ap (times_x 128 reduction_block) (sym (product_of-more 128 reduction_block 127 a b h))

pub product-raised : (k a b : ℕ) → a * 2 ^ k < 2 ^ 128 → block_product (a * 2 ^ k) b ≡ raised k (block_product a b)
unfolding raised
product-raised zero a b h =
    let e : a * 2 ^ 0 ≡ a = omega arith in
    rw e refl
product-raised (suc k) a b h =
    let w : 2 ^ suc k ≡ 2 * 2 ^ k = pow-succ' 2 k in
    let d : a * 2 ^ suc k ≡ 2 * (a * 2 ^ k) = double a (2 ^ suc k) (2 ^ k) w in
    let small : a * 2 ^ k < 2 ^ 127 = omega arith in
    ap (λ (z : ℕ). block_product z b) d ∙ product-doubled (a * 2 ^ k) b small ∙ ap (times_x 128 reduction_block) (product-raised k a b (omega arith))
  where
    double : (a p q : ℕ) → p ≡ 2 * q → a * p ≡ 2 * (a * q)
    double a p q e = rw e (grind arith)

-- x^k is what moves up
product-power : (k h : ℕ) → h < 2 ^ 128 → block_product h (raised k 1) ≡ raised k h
unfolding block_product raised
product-power zero h l = block_product-by_one h l
product-power (suc k) h l = times h (raised k 1) (raised-lt k 1 (omega arith)) ∙ ap (times_x 128 reduction_block) (product-power k h l)
  where
    times : (a b : ℕ) → b < 2 ^ 128 → block_product a (times_x 128 reduction_block b) ≡ times_x 128 reduction_block (block_product a b)
    times a b hb = product_of-times_x 128 reduction_block 128 a b reduces_block.some reduces_block.small hb

power-128 : raised 128 1 ≡ reduction_block
unfolding times_x raised
power-128 = refl

-- x^128·h, for an h of at most 120 bits: x^128 is x^7 + x^2 + x + 1
pub raised-128 : (h : ℕ) → h < 2 ^ 120 → raised 128 h ≡ bit_xor h (bit_xor (h * 2) (bit_xor (h * 4) (h * 128)))
raised-128 h l =
    let b : h < 2 ^ 128 = omega arith in
    let one : block_product 1 h ≡ h = block_product-one h in
    let two : block_product 2 h ≡ h * 2 = product-raised 1 1 h (omega arith) ∙ ap (raised 1) one ∙ raised-low 1 h (omega arith) in
    let four : block_product 4 h ≡ h * 4 = product-raised 2 1 h (omega arith) ∙ ap (raised 2) one ∙ raised-low 2 h (omega arith) in
    let last : block_product 128 h ≡ h * 128 = product-raised 7 1 h (omega arith) ∙ ap (raised 7) one ∙ raised-low 7 h (omega arith) in
    let sum : block_product 135 h ≡ bit_xor (block_product 1 h) (bit_xor (block_product 2 h) (bit_xor (block_product 4 h) (block_product 128 h))) =
    block_product-xor 1 134 h b ∙ ap (bit_xor (block_product 1 h)) (block_product-xor 2 132 h b ∙ ap (bit_xor (block_product 2 h)) (block_product-xor 4 128 h b)) in
    sym (product-power 128 h b) ∙ ap (block_product h) power-128 ∙ block_product_comm h 135 b (omega arith) ∙ sum
    ∙ ap (λ (z : ℕ). bit_xor z (bit_xor (block_product 2 h) (bit_xor (block_product 4 h) (block_product 128 h)))) one
    ∙ ap (λ (z : ℕ). bit_xor h (bit_xor z (bit_xor (block_product 4 h) (block_product 128 h)))) two
    ∙ ap (λ (z : ℕ). bit_xor h (bit_xor (h * 2) (bit_xor z (block_product 128 h)))) four
    ∙ ap (λ (z : ℕ). bit_xor h (bit_xor (h * 2) (bit_xor (h * 4) z))) last

-- the element that a number of two parts stands for
abbrev pub folded : ℕ → ℕ → ℕ
folded low high = bit_xor low (raised 128 high)

-- a number moved up by a byte, with n added
pub folded-step : (low high n : ℕ) → low < 2 ^ 128 → high < 2 ^ 120 → n < 2 ^ 128
    → folded (bit_xor (low * 256 % 2 ^ 128) n) (bit_xor (high * 256) (low / 2 ^ 120)) ≡ bit_xor n (raised 8 (folded low high))
folded-step low high n hl hh hn =
    let l : ℕ = low / 2 ^ 120 in
    let m : ℕ = low % 2 ^ 120 in
    let sl : l < 256 = omega arith in
    let sm : m < 2 ^ 120 = omega arith in
    let parts : low ≡ bit_xor (l * 2 ^ 120) m = sym (xor_shifted l 120 m sm ∙ omega arith) in
    let up : raised 8 low ≡ bit_xor (raised 128 l) (m * 256) =
    ap (raised 8) parts ∙ raised-xor 8 (l * 2 ^ 120) m (omega arith) (omega arith)
    ∙ ap (λ (z : ℕ). bit_xor (raised 8 z) (raised 8 m)) (sym (raised-low 120 l (omega arith)))
    ∙ ap (λ (z : ℕ). bit_xor z (raised 8 m)) (raised-raised 8 120 l) ∙ ap (bit_xor (raised 128 l)) (raised-low 8 m (omega arith)) in
    let kept : low * 256 % 2 ^ 128 ≡ m * 256 = omega arith in
    let top : raised 128 (high * 256) ≡ raised 8 (raised 128 high) =
    ap (raised 128) (sym (raised-low 8 high (omega arith))) ∙ raised-raised 128 8 high ∙ sym (raised-raised 8 128 high) in
    let hx : raised 128 (bit_xor (high * 256) l) ≡ bit_xor (raised 8 (raised 128 high)) (raised 128 l) =
    raised-xor 128 (high * 256) l (omega arith) (omega arith) ∙ ap (λ (z : ℕ). bit_xor z (raised 128 l)) top in
    let r : ℕ = raised 8 (raised 128 high) in
    let t : ℕ = raised 128 l in
    ap (λ (z : ℕ). bit_xor (bit_xor z n) (raised 128 (bit_xor (high * 256) l))) kept ∙ ap (bit_xor (bit_xor (m * 256) n)) hx
    ∙ regroup (m * 256) n r t
    ∙ ap (λ (z : ℕ). bit_xor n (bit_xor z r)) (sym up)
    ∙ ap (bit_xor n) (sym (raised-xor 8 low (raised 128 high) hl (raised-lt 128 high (omega arith))))
  where
    regroup : (m n r t : ℕ) → bit_xor (bit_xor m n) (bit_xor r t) ≡ bit_xor n (bit_xor (bit_xor t m) r)
    regroup m n r t =
        ap (λ (z : ℕ). bit_xor z (bit_xor r t)) (xor_comm m n) ∙ xor_assoc n m (bit_xor r t)
        ∙ ap (λ (z : ℕ). bit_xor n (bit_xor m z)) (xor_comm r t) ∙ ap (bit_xor n) (sym (xor_assoc m t r) ∙ ap (λ (z : ℕ). bit_xor z r) (xor_comm m t))
