-- Numbers with their bits in reverse order, byte by byte.
use Rattle.std.proofs.Common.{◌≡◌, ℕ, zero, suc, ◌+◌, ◌*◌, ◌/◌, ◌%◌, ◌^◌, ◌<◌, List, [], ◌∷◌, map, length, get_or, refl, sym, ap, ◌∙◌, arith}
use Rattle.std.specs.Prelude.{bit_and, bit_xor}
use Rattle.std.specs.Int.{byte_at, bytes_high_first, from_be_bytes, reverse_bits, reverse_bits_onto, to_be_bytes, w128, w8}
use Rattle.std.specs.List.{range_with_len}
use Rattle.std.proofs.Math.Nat.{mul-add-div_right, pow-succ'}
use Rattle.std.proofs.lemmas.Nat.{div-mul-add, pow-add, pow_pos, shr-shr}
use Rattle.std.proofs.lemmas.List.{length-map}
use Rattle.std.proofs.lemmas.Simd.{pick_l_whole}
use lib.Lanes.{number_l}
use Rattle.gcm_core.specs.Ghash.{block_of, polynomial_of}
use Rattle.gcm_core.specs.private.Nibbles.{entry_of}
use Rattle.gcm_core.specs.declared.ghash.TheConstants.{REVERSED_HIGH, REVERSED_LOW}
use Rattle.gcm_core.proofs.Lanes.{at_each_byte}
use Rattle.gcm_core.proofs.Sums.{AreBytes}

-- what the half bytes of a byte bring to it
pub halves_reversed : (x : ℕ) → x < 256 → bit_xor (entry_of REVERSED_LOW (bit_and x 15)) (entry_of REVERSED_HIGH (x / 2 ^ 4)) ≡ reverse_bits w8 x
unfolding reverse_bits_onto
halves_reversed x h = at_each_byte (λ y. bit_xor (entry_of REVERSED_LOW (bit_and y 15)) (entry_of REVERSED_HIGH (y / 2 ^ 4))) (reverse_bits w8) refl x h

-- the bits in two parts
reverse_bits_onto-add : (j k n a : ℕ) → reverse_bits_onto (j + k) n a ≡ reverse_bits_onto k (n / 2 ^ j) (reverse_bits_onto j n a)
unfolding reverse_bits_onto
reverse_bits_onto-add zero k n a =
    let z : 0 + k ≡ k = omega arith in
    let one : n / 2 ^ 0 ≡ n = omega arith in
    rw (z, one) refl
reverse_bits_onto-add (suc j) k n a =
    let z : suc j + k ≡ suc (j + k) = omega arith in
    let s : 1 + j ≡ suc j = omega arith in
    let half : n / 2 / 2 ^ j ≡ n / 2 ^ suc j = shr-shr n 1 j ∙ ap (λ (i : ℕ). n / 2 ^ i) s in
    let b : ℕ = a * 2 + n % 2 in
    ap (λ (i : ℕ). reverse_bits_onto i n a) z ∙ reverse_bits_onto-add j k (n / 2) b ∙ ap (λ (m : ℕ). reverse_bits_onto k m (reverse_bits_onto j (n / 2) b)) half

-- what stands above the bits plays no part
reverse_bits_onto-low : (k x y a : ℕ) → reverse_bits_onto k (y * 2 ^ k + x) a ≡ reverse_bits_onto k x a
unfolding reverse_bits_onto
reverse_bits_onto-low zero x y a = refl
reverse_bits_onto-low (suc k) x y a =
    let w : 2 ^ suc k ≡ 2 * 2 ^ k = pow-succ' 2 k in
    let t : ℕ = y * 2 ^ k in
    let d : y * 2 ^ suc k ≡ 2 * t = double y (2 ^ suc k) (2 ^ k) w in
    let half : (y * 2 ^ suc k + x) / 2 ≡ t + x / 2 = omega (arith, d) in
    let odd : (y * 2 ^ suc k + x) % 2 ≡ x % 2 = omega (arith, d) in
    ap (λ (n : ℕ). reverse_bits_onto k n (a * 2 + (y * 2 ^ suc k + x) % 2)) half ∙ ap (λ (b : ℕ). reverse_bits_onto k (t + x / 2) (a * 2 + b)) odd
    ∙ reverse_bits_onto-low k (x / 2) y (a * 2 + x % 2)
  where
    double : (a p q : ℕ) → p ≡ 2 * q → a * p ≡ 2 * (a * q)
    double a p q e = rw e (grind arith)

-- one byte, after the bits of a
reverse_bits_onto-byte : (n a : ℕ) → reverse_bits_onto 8 n a ≡ reverse_bits_onto 8 n 0 + 256 * a
unfolding reverse_bits_onto
reverse_bits_onto-byte n a = omega arith

-- a number by its bytes, the highest first
highest_first : List ℕ → ℕ
highest_first [] = 0
highest_first (b ∷ bs) = b * 2 ^ (8 * length bs) + highest_first bs

-- it has 8 bits for each byte
highest_first-lt : (bs : List ℕ) → AreBytes bs → highest_first bs < 2 ^ (8 * length bs)
unfolding highest_first
highest_first-lt [] h = omega arith
highest_first-lt (b ∷ bs) h =
    let w : 8 * length (b ∷ bs) ≡ 8 * length bs + 8 = omega arith in
    let p : 2 ^ (8 * length bs + 8) ≡ 2 ^ (8 * length bs) * 256 = pow-add 2 (8 * length bs) 8 in
    rw (w, p) (below b (2 ^ (8 * length bs)) (highest_first bs) h.0 (highest_first-lt bs h.1))
  where
    below : (b p r : ℕ) → b < 256 → r < p → b * p + r < p * 256
    below b p r hb hr = grind arith

-- the highest byte comes last
highest_first-reversed : (bs : List ℕ) → AreBytes bs → reverse_bits_onto (8 * length bs) (highest_first bs) 0 ≡ number_l 256 (map (reverse_bits w8) bs)
unfolding highest_first reverse_bits_onto
highest_first-reversed [] h = refl
highest_first-reversed (b ∷ bs) h =
    let j : ℕ = 8 * length bs in
    let r : ℕ = highest_first bs in
    let n : ℕ = b * 2 ^ j + r in
    let w : 8 * length (b ∷ bs) ≡ j + 8 = omega arith in
    let top : n / 2 ^ j ≡ b = div-mul-add b (2 ^ j) r (highest_first-lt bs h.1) in
    ap (λ (k : ℕ). reverse_bits_onto k n 0) w ∙ reverse_bits_onto-add j 8 n 0
    ∙ ap (λ (m : ℕ). reverse_bits_onto 8 m (reverse_bits_onto j n 0)) top
    ∙ ap (reverse_bits_onto 8 b) (reverse_bits_onto-low j r b 0 ∙ highest_first-reversed bs h.1)
    ∙ reverse_bits_onto-byte b (number_l 256 (map (reverse_bits w8) bs))

-- a block as a number
highest_first-block : (bs : List ℕ) → length bs ≡ 16 → from_be_bytes w128 bs ≡ highest_first bs
unfolding highest_first
highest_first-block bs len =
    let sum : from_be_bytes w128 bs ≡ highest_first (map (λ (k : ℕ). get_or bs k 0) (range_with_len 0 16)) = omega arith in
    sum ∙ ap highest_first (pick_l_whole 0 bs 16 len)

-- the polynomial of a block, from its bytes with their bits in reverse order
pub polynomial_of-reversed : (bs : List ℕ) → length bs ≡ 16 → AreBytes bs → number_l 256 (map (reverse_bits w8) bs) ≡ polynomial_of bs
unfolding polynomial_of
polynomial_of-reversed bs len bytes =
    let w : 8 * length bs ≡ 128 = omega arith in
    sym (highest_first-reversed bs bytes) ∙ ap (λ (k : ℕ). reverse_bits_onto k (highest_first bs) 0) w ∙ ap (reverse_bits w128) (sym (highest_first-block bs len))

-- how large the reversed bits can be
reverse_bits_onto-lt : (k n a p : ℕ) → a < p → reverse_bits_onto k n a < p * 2 ^ k
unfolding reverse_bits_onto
reverse_bits_onto-lt zero n a p h = omega arith
reverse_bits_onto-lt (suc k) n a p h =
    let w : 2 ^ suc k ≡ 2 * 2 ^ k = pow-succ' 2 k in
    let r : reverse_bits_onto k (n / 2) (a * 2 + n % 2) < 2 * p * 2 ^ k = reverse_bits_onto-lt k (n / 2) (a * 2 + n % 2) (2 * p) (omega arith) in
    rw (doubled p (2 ^ suc k) (2 ^ k) w) r
  where
    doubled : (a p q : ℕ) → p ≡ 2 * q → a * p ≡ 2 * a * q
    doubled a p q e = rw e (grind arith)

-- a polynomial has 128 coefficients
pub polynomial_of-lt : (b : List ℕ) → polynomial_of b < 2 ^ 128
unfolding polynomial_of
polynomial_of-lt b = omega (arith, reverse_bits_onto-lt 128 (from_be_bytes w128 b) 0 1 (omega arith))

-- a number by its bytes, the lowest first: the lowest byte comes first
lowest_first-reversed : (bs : List ℕ) (a : ℕ) → AreBytes bs
    → reverse_bits_onto (8 * length bs) (number_l 256 bs) a ≡ a * 2 ^ (8 * length bs) + highest_first (map (reverse_bits w8) bs)
unfolding highest_first reverse_bits_onto
lowest_first-reversed [] a h = omega arith
lowest_first-reversed (b ∷ bs) a h =
    let j : ℕ = 8 * length bs in
    let m : ℕ = number_l 256 bs in
    let r : ℕ = reverse_bits w8 b in
    let rest : ℕ = highest_first (map (reverse_bits w8) bs) in
    let w : 8 * length (b ∷ bs) ≡ 8 + j = omega arith in
    let p : 2 ^ (8 + j) ≡ 256 * 2 ^ j = pow-add 2 8 j in
    let n : b + 256 * m ≡ m * 2 ^ 8 + b = omega arith in
    let top : (m * 2 ^ 8 + b) / 2 ^ 8 ≡ m = omega (arith, h.0) in
    let byte : reverse_bits_onto 8 (m * 2 ^ 8 + b) a ≡ r + 256 * a = reverse_bits_onto-low 8 b m a ∙ reverse_bits_onto-byte b a in
    let len : 8 * length (map (reverse_bits w8) bs) ≡ j = ap (λ (k : ℕ). 8 * k) (length-map bs (reverse_bits w8)) in
    ap (λ (k : ℕ). reverse_bits_onto k (b + 256 * m) a) w ∙ ap (λ (k : ℕ). reverse_bits_onto (8 + j) k a) n ∙ reverse_bits_onto-add 8 j (m * 2 ^ 8 + b) a
    ∙ ap (λ (k : ℕ). reverse_bits_onto j k (reverse_bits_onto 8 (m * 2 ^ 8 + b) a)) top ∙ ap (reverse_bits_onto j m) byte
    ∙ lowest_first-reversed bs (r + 256 * a) h.1
    ∙ placed r a (2 ^ j) rest
    ∙ sym (ap (λ (k : ℕ). a * 2 ^ k + (r * 2 ^ (8 * length (map (reverse_bits w8) bs)) + rest)) w ∙ ap (λ (k : ℕ). a * k + (r * 2 ^ (8 * length (map (reverse_bits w8) bs)) + rest)) p
    ∙ ap (λ (k : ℕ). a * (256 * 2 ^ j) + (r * 2 ^ k + rest)) len)
  where
    placed : (r a p s : ℕ) → (r + 256 * a) * p + s ≡ a * (256 * p) + (r * p + s)
    placed r a p s = grind arith

-- what a byte's place is worth
pow-bytes : (k : ℕ) → 256 ^ k ≡ 2 ^ (8 * k)
pow-bytes zero = refl
pow-bytes (suc k) =
    let w : 8 * suc k ≡ 8 * k + 8 = omega arith in
    let p : 2 ^ (8 * k + 8) ≡ 2 ^ (8 * k) * 256 = pow-add 2 (8 * k) 8 in
    let q : 256 ^ suc k ≡ 256 * 256 ^ k = pow-succ' 256 k in
    q ∙ ap (λ (z : ℕ). 256 * z) (pow-bytes k) ∙ sym (ap (λ (j : ℕ). 2 ^ j) w ∙ p ∙ omega arith)

-- byte k of a number
byte_at-is : (k n : ℕ) → byte_at k n ≡ n / 2 ^ (8 * k) % 256
byte_at-is zero n =
    let one : n / 2 ^ (8 * 0) ≡ n = omega arith in
    rw one refl
byte_at-is (suc k) n = ap (λ (q : ℕ). n / q % 256) (pow-bytes (suc k))

-- the low bytes of a number, whatever stands above them
bytes_high_first-low : (k y r : ℕ) → bytes_high_first k (y * 2 ^ (8 * k) + r) ≡ bytes_high_first k r
bytes_high_first-low zero y r = refl
bytes_high_first-low (suc k) y r =
    let w : 8 * suc k ≡ 8 * k + 8 = omega arith in
    let p : 2 ^ (8 * k + 8) ≡ 2 ^ (8 * k) * 256 = pow-add 2 (8 * k) 8 in
    let up : y * 2 ^ (8 * suc k) ≡ y * 256 * 2 ^ (8 * k) = ap (λ (j : ℕ). y * 2 ^ j) w ∙ ap (λ (q : ℕ). y * q) p ∙ turned y (2 ^ (8 * k)) in
    let n : ℕ = y * 256 * 2 ^ (8 * k) + r in
    let byte : byte_at k n ≡ byte_at k r = byte_at-is k n ∙ above y (2 ^ (8 * k)) r (pow_pos (8 * k)) ∙ sym (byte_at-is k r) in
    ap (λ (m : ℕ). bytes_high_first (suc k) (m + r)) up ∙ ap (λ (b : ℕ). b ∷ bytes_high_first k n) byte ∙ ap (λ (l : List ℕ). byte_at k r ∷ l) (bytes_high_first-low k (y * 256) r)
  where
    turned : (y p : ℕ) → y * (p * 256) ≡ y * 256 * p
    turned y p = grind arith

    above : (y p r : ℕ) → 0 < p → (y * 256 * p + r) / p % 256 ≡ r / p % 256
    above y p r h =
        let q : (y * 256 * p + r) / p ≡ y * 256 + r / p = mul-add-div_right h (y * 256) r in
        rw q (omega arith)

-- the bytes of a number are those that it was made of
bytes_high_first-made : (bs : List ℕ) → AreBytes bs → bytes_high_first (length bs) (highest_first bs) ≡ bs
unfolding highest_first
bytes_high_first-made [] h = refl
bytes_high_first-made (b ∷ bs) h =
    let k : ℕ = length bs in
    let r : ℕ = highest_first bs in
    let byte : byte_at k (b * 2 ^ (8 * k) + r) ≡ b = byte_at-is k (b * 2 ^ (8 * k) + r) ∙ ap (λ (q : ℕ). q % 256) (div-mul-add b (2 ^ (8 * k)) r (highest_first-lt bs h.1)) ∙ omega (arith, h.0) in
    ap (λ (x : ℕ). x ∷ bytes_high_first k (b * 2 ^ (8 * k) + r)) byte ∙ ap (λ (l : List ℕ). b ∷ l) (bytes_high_first-low k b r ∙ bytes_high_first-made bs h.1)

-- bytes stay bytes
reversed-bytes : (bs : List ℕ) → AreBytes bs → AreBytes (map (reverse_bits w8) bs)
reversed-bytes [] h = tt
reversed-bytes (b ∷ bs) h = (reverse_bits_onto-lt 8 b 0 1 (omega arith), reversed-bytes bs h.1)

-- the block of a polynomial, from the bytes of the polynomial
pub block_of-reversed : (bs : List ℕ) → length bs ≡ 16 → AreBytes bs → map (reverse_bits w8) bs ≡ block_of (number_l 256 bs)
unfolding block_of
block_of-reversed bs len bytes =
    let out : List ℕ = map (reverse_bits w8) bs in
    let w : 8 * length bs ≡ 128 = omega arith in
    let long : length out ≡ 16 = length-map bs (reverse_bits w8) ∙ len in
    let reversed : reverse_bits w128 (number_l 256 bs) ≡ highest_first out =
    ap (λ (k : ℕ). reverse_bits_onto k (number_l 256 bs) 0) (sym w) ∙ lowest_first-reversed bs 0 bytes ∙ omega arith in
    sym (ap (to_be_bytes w128) reversed ∙ ap (λ (k : ℕ). bytes_high_first k (highest_first out)) (sym long) ∙ bytes_high_first-made out (reversed-bytes bs bytes))
