-- Bytes in the other basis: sums, and what the affine map adds.
use Rattle.std.proofs.Common.{◌≡◌, ℕ, ◌<◌, List, [], ◌∷◌, ◌++◌, Bool, true, false, T, ◌&&◌, map, length, get_or, refl, sym, ap, ◌∙◌, arith, ltb, ltb-true}
use Rattle.std.specs.Prelude.{bit_xor}
use Rattle.std.specs.List.{range_with_len}
use Rattle.std.proofs.lemmas.Nat.{xor_lt}
use Rattle.std.proofs.lemmas.List.{get_or-map, length-map}
use Rattle.std.proofs.lemmas.Simd.{Each1-get_or, map-map, pick_l_left}
use lib.Bits.{xor_zero_r}
use lib.Lanes.{all_below, pick_l, zip2}
use Rattle.gcm_core.specs.private.Nibbles.{changed}
use Rattle.gcm_core.proofs.Fields.{xor-swap}
use Rattle.gcm_core.proofs.Lanes.{at_each_byte}
use Rattle.gcm_core.proofs.Sums.{AreBytes}

-- a sum of bytes in the other basis
pub changed-xor : (x y : ℕ) → x < 256 → y < 256 → changed (bit_xor x y) ≡ bit_xor (changed x) (changed y)
changed-xor x y hx hy =
    at_each_byte (λ b. changed (bit_xor x b)) (λ b. bit_xor (changed x) (changed b))
    (at_each_byte (λ a. map (λ b. changed (bit_xor a b)) (range_with_len 0 256)) (λ a. map (λ b. bit_xor (changed a) (changed b)) (range_with_len 0 256)) refl x hx) y hy

-- a byte with m added, in the other basis
abbrev pub added : ℕ → ℕ → ℕ
added m x = changed (bit_xor x m)

added-xor : (m n x y : ℕ) → m < 256 → n < 256 → x < 256 → y < 256 → bit_xor (added m x) (added n y) ≡ added (bit_xor m n) (bit_xor x y)
added-xor m n x y hm hn hx hy =
    sym (changed-xor (bit_xor x m) (bit_xor y n) (xor_lt 8 x m hx hm) (xor_lt 8 y n hy hn)) ∙ ap changed (xor-swap x m y n)

-- a sum of vectors
pub added-sum : (m n : ℕ) (xs ys : List ℕ) → m < 256 → n < 256 → AreBytes xs → AreBytes ys → zip2 bit_xor (map (added m) xs) (map (added n) ys) ≡ map (added (bit_xor m n)) (zip2 bit_xor xs ys)
added-sum m n [] ys hm hn hx hy = refl
added-sum m n (x ∷ xs) [] hm hn hx hy = refl
added-sum m n (x ∷ xs) (y ∷ ys) hm hn hx hy = rw (added-xor m n x y hm hn hx.0 hy.0, added-sum m n xs ys hm hn hx.1 hy.1) refl

pub sum-bytes : (xs ys : List ℕ) → AreBytes xs → AreBytes ys → AreBytes (zip2 bit_xor xs ys)
sum-bytes [] ys hx hy = tt
sum-bytes (x ∷ xs) [] hx hy = tt
sum-bytes (x ∷ xs) (y ∷ ys) hx hy = (xor_lt 8 x y hx.0 hy.0, sum-bytes xs ys hx.1 hy.1)

pub added-none : (xs : List ℕ) → map (added 0) xs ≡ map changed xs
added-none [] = refl
added-none (x ∷ xs) = rw (xor_zero_r x, added-none xs) refl

-- two functions that agree below n agree on places below n
pub map-below : (f g : ℕ → ℕ) (n : ℕ) → ((k : ℕ) → k < n → f k ≡ g k) → (ks : List ℕ) → T (all_below n ks) → map f ks ≡ map g ks
map-below f g n same [] t = refl
map-below f g n same (k ∷ ks) t = go (ltb k n) refl t (map-below f g n same ks)
  where
    go : (b : Bool) → ltb k n ≡ b → T (b && all_below n ks) → (T (all_below n ks) → map f ks ≡ map g ks) → f k ∷ map f ks ≡ g k ∷ map g ks
    go true e u rest = rw (same k (ltb-true k n e), rest u) refl
    go false e u rest = absurd u

bytes-below : (f : ℕ → ℕ) (n : ℕ) → ((k : ℕ) → k < n → f k < 256) → (ks : List ℕ) → T (all_below n ks) → AreBytes (map f ks)
bytes-below f n small [] t = tt
bytes-below f n small (k ∷ ks) t = go (ltb k n) refl t (bytes-below f n small ks)
  where
    go : (b : Bool) → ltb k n ≡ b → T (b && all_below n ks) → (T (all_below n ks) → AreBytes (map f ks)) → AreBytes (f k ∷ map f ks)
    go true e u rest = (small k (ltb-true k n e), rest u)
    go false e u rest = absurd u

-- lanes in another order, each under a function
pub picked-map : (f : ℕ → ℕ) (a ks : List ℕ) → length a ≡ 16 → T (all_below 16 ks) → pick_l 0 (map f a ++ map f a) ks ≡ map f (pick_l 0 (a ++ a) ks)
picked-map f a ks len t =
    pick_l_left 0 (map f a) (map f a) 16 ks (length-map a f ∙ len) t
    ∙ map-below (λ k. get_or (map f a) k 0) (λ k. f (get_or a k 0)) 16 (λ k h. get_or-map f a k 0 0 (omega arith)) ks t
    ∙ sym (ap (map f) (pick_l_left 0 a a 16 ks len t) ∙ map-map f (λ k. get_or a k 0) ks)

pub picked-bytes : (a ks : List ℕ) → length a ≡ 16 → T (all_below 16 ks) → AreBytes a → AreBytes (pick_l 0 (a ++ a) ks)
picked-bytes a ks len t h =
    rw (pick_l_left 0 a a 16 ks len t) (bytes-below (λ k. get_or a k 0) 16 (λ k l. Each1-get_or (λ x. x < 256) a k 0 (omega arith) h) ks t)
