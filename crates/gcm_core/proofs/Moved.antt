-- Numbers of 16 bytes in the lanes of vectors: their sums, and how they move up by a byte.
use Rattle.std.proofs.Common.{◌≡◌, ℕ, ◌+◌, ◌*◌, ◌/◌, ◌%◌, ◌^◌, ◌<◌, ◌≤◌, List, [], ◌∷◌, ◌++◌, map, length, take, get_or, refl, sym, ap, ◌∙◌, arith, w8, Fits}
use Rattle.std.specs.Prelude.{bit_xor}
use Rattle.std.specs.List.{range_with_len}
use Rattle.std.proofs.lemmas.Nat.{xor_lt, xor_mod, xor_shr}
use Rattle.std.proofs.lemmas.Simd.{Each1-chunk, Each1-get_or, below_from_Fits, pick_l_whole}
use Rattle.std.proofs.lemmas.List.{length-take}
use lib.Bits.{xor_shifted}
use lib.Lanes.{Each1, number_l, pick_l, zip2}
use Rattle.gcm_core.specs.declared.hash_key.TheConstants.{FROM_LAST}
use Rattle.gcm_core.proofs.Sums.{AreBytes, number-lt}

-- the sum of two numbers, byte by byte
pub number-xor : (xs ys : List ℕ) → length xs ≡ length ys → AreBytes xs → AreBytes ys → number_l 256 (zip2 bit_xor xs ys) ≡ bit_xor (number_l 256 xs) (number_l 256 ys)
number-xor [] [] len hx hy = refl
number-xor [] (y ∷ ys) len hx hy = absurd (omega arith)
number-xor (x ∷ xs) [] len hx hy = absurd (omega arith)
number-xor (x ∷ xs) (y ∷ ys) len hx hy =
    let m : ℕ = number_l 256 xs in
    let n : ℕ = number_l 256 ys in
    let a : ℕ = x + 256 * m in
    let b : ℕ = y + 256 * n in
    let ma : a / 2 ^ 8 ≡ m = omega (arith, hx.0) in
    let nb : b / 2 ^ 8 ≡ n = omega (arith, hy.0) in
    let xa : a % 2 ^ 8 ≡ x = omega (arith, hx.0) in
    let yb : b % 2 ^ 8 ≡ y = omega (arith, hy.0) in
    let top : bit_xor a b / 2 ^ 8 ≡ bit_xor m n = xor_shr a b 8 ∙ ap (λ (z : ℕ). bit_xor z (b / 2 ^ 8)) ma ∙ ap (bit_xor m) nb in
    let last : bit_xor a b % 2 ^ 8 ≡ bit_xor x y = xor_mod a b 8 ∙ ap (λ (z : ℕ). bit_xor z (b % 2 ^ 8)) xa ∙ ap (bit_xor x) yb in
    ap (λ (z : ℕ). bit_xor x y + 256 * z) (number-xor xs ys (omega arith) hx.1 hy.1)
    ∙ joined (bit_xor a b) (bit_xor m n) (bit_xor x y) top last
  where
    joined : (s q r : ℕ) → s / 2 ^ 8 ≡ q → s % 2 ^ 8 ≡ r → r + 256 * q ≡ s
    joined s q r eq er = omega arith

-- the sum of two vectors fits in as many bits as each
pub number-xor-lt : (xs ys : List ℕ) → length xs ≡ 16 → length ys ≡ 16 → Each1 (Fits w8) xs → Each1 (Fits w8) ys → number_l 256 (zip2 bit_xor xs ys) < 2 ^ 128
number-xor-lt xs ys lx ly hx hy =
    let bx : AreBytes xs = below_from_Fits w8 xs hx in
    let by : AreBytes ys = below_from_Fits w8 ys hy in
    rw (number-xor xs ys (lx ∙ sym ly) bx by) (xor_lt 128 (number_l 256 xs) (number_l 256 ys) (number-lt 16 xs bx (omega arith)) (number-lt 16 ys by (omega arith)))

-- the highest byte of 16
number-top : (xs : List ℕ) → length xs ≡ 16 → number_l 256 xs ≡ number_l 256 (take 15 xs) + 2 ^ 120 * get_or xs 15 0
number-top xs len =
    ap (number_l 256) (sym (pick_l_whole 0 xs 16 len)) ∙ explicit ∙ ap (λ (l : List ℕ). number_l 256 (take 15 l) + 2 ^ 120 * get_or xs 15 0) (pick_l_whole 0 xs 16 len)
  where
    explicit : number_l 256 (map (λ (k : ℕ). get_or xs k 0) (range_with_len 0 16)) ≡ number_l 256 (take 15 (map (λ (k : ℕ). get_or xs k 0) (range_with_len 0 16))) + 2 ^ 120 * get_or xs 15 0
    explicit = omega arith

-- the last lane of one vector before the others of another
number-from_last : (below xs : List ℕ) → length below ≡ 16 → length xs ≡ 16 → number_l 256 (pick_l 0 (below ++ xs) FROM_LAST) ≡ 256 * number_l 256 (take 15 xs) + get_or below 15 0
number-from_last below xs lb lx =
    ap (λ (b : List ℕ). number_l 256 (pick_l 0 (b ++ xs) FROM_LAST)) (sym (pick_l_whole 0 below 16 lb))
    ∙ ap (λ (l : List ℕ). number_l 256 (pick_l 0 (map (λ (k : ℕ). get_or below k 0) (range_with_len 0 16) ++ l) FROM_LAST)) (sym (pick_l_whole 0 xs 16 lx))
    ∙ explicit ∙ ap (λ (l : List ℕ). 256 * number_l 256 (take 15 l) + get_or below 15 0) (pick_l_whole 0 xs 16 lx)
  where
    explicit : number_l 256 (pick_l 0 (map (λ (k : ℕ). get_or below k 0) (range_with_len 0 16) ++ map (λ (k : ℕ). get_or xs k 0) (range_with_len 0 16)) FROM_LAST)
        ≡ 256 * number_l 256 (take 15 (map (λ (k : ℕ). get_or xs k 0) (range_with_len 0 16))) + get_or below 15 0
    explicit = omega arith

-- a number moved up by a byte
pub number-moved : (below xs : List ℕ) → length below ≡ 16 → length xs ≡ 16 → AreBytes below → AreBytes xs
    → number_l 256 (pick_l 0 (below ++ xs) FROM_LAST) ≡ bit_xor (number_l 256 xs * 256 % 2 ^ 128) (number_l 256 below / 2 ^ 120)
number-moved below xs lb lx hb hx =
    let n : ℕ = number_l 256 (take 15 xs) in
    let m : ℕ = number_l 256 (take 15 below) in
    let b : ℕ = get_or below 15 0 in
    let x : ℕ = get_or xs 15 0 in
    let small : b < 256 = Each1-get_or (λ (z : ℕ). z < 256) below 15 0 (omega arith) hb in
    let ln : n < 2 ^ 120 = number-lt 15 (take 15 xs) (Each1-chunk (λ (z : ℕ). z < 256) 0 15 xs hx) (few xs) in
    let lm : m < 2 ^ 120 = number-lt 15 (take 15 below) (Each1-chunk (λ (z : ℕ). z < 256) 0 15 below hb) (few below) in
    let whole : number_l 256 xs ≡ n + 2 ^ 120 * x = number-top xs lx in
    let under : number_l 256 below ≡ m + 2 ^ 120 * b = number-top below lb in
    let up : number_l 256 xs * 256 % 2 ^ 128 ≡ n * 2 ^ 8 = omega arith in
    let last : number_l 256 below / 2 ^ 120 ≡ b = omega arith in
    number-from_last below xs lb lx ∙ sym (ap (λ (z : ℕ). bit_xor z (number_l 256 below / 2 ^ 120)) up ∙ ap (bit_xor (n * 2 ^ 8)) last ∙ xor_shifted n 8 b small ∙ omega arith)
  where
    few : (l : List ℕ) → length (take 15 l) ≤ 15
    few l = omega (arith, length-take 15 l)
