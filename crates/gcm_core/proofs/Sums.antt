-- A product of GF(2^128) as the sum over bytes of a row's entries.
use Rattle.std.proofs.Common.{◌≡◌, ℕ, zero, suc, ◌+◌, ◌-◌, ◌*◌, ◌/◌, ◌%◌, ◌^◌, ◌<◌, ◌≤◌, List, [], ◌∷◌, map, length, drop, take, get_or, slice_index, refl, sym, ap, ◌∙◌, arith, set, inl, inr}
use Rattle.std.specs.Prelude.{bit_and, bit_xor}
use Rattle.std.proofs.lemmas.Bool.Decides.{nat_tests}
use Rattle.std.proofs.lemmas.Nat.{mod-pow-add, pow-add, pow_pos, shr-shr, xor_lt, xor_mod, xor_shr}
use Rattle.std.specs.Int.{to_le_bytes, w128}
use Rattle.std.specs.List.{range_with_len}
use Rattle.std.proofs.lemmas.Bool.{cases_lt}
use Rattle.std.proofs.lemmas.List.{get_or-set_other, get_or-set_same, length-set}
use Rattle.std.proofs.lemmas.List.FromFn.{get_or-map-range_with_len}
use Rattle.std.proofs.lemmas.Simd.{get_or-chunk}
use lib.Lanes.{Each1, digits_l, number_l}
use lib.Bits.{xor_comm, xor_shifted, xor_zero_r}
use Rattle.gcm_core.proofs.Fields.{xor-swap}
use Rattle.gcm_core.proofs.Hash.{block_product-lt, block_product-xor, block_product-zero}
use Rattle.gcm_core.proofs.Lanes.{at_each_byte}
use Rattle.gcm_core.proofs.Shifts.{folded, folded-step, product-raised, raised, raised-low, raised-lt, raised-xor, raised-zero}
use Rattle.gcm_core.specs.Ghash.{block_product}
use Rattle.gcm_core.specs.private.Nibbles.{entry_of}
use Rattle.gcm_core.specs.private.Rows.{IsRows, byte_of, factor_of, product_byte, row_at}

abbrev pub AreBytes : List ℕ → Type 0
AreBytes cs = Each1 (λ x. x < 256) cs

-- ---- one byte

-- a byte and its further bytes
pub byte-and-rest : (q : ℕ) → q < 2 ^ 128 → bit_xor (q % 256) (raised 8 (q / 256)) ≡ q
byte-and-rest q h =
    ap (bit_xor (q % 256)) (raised-low 8 (q / 256) (omega arith)) ∙ xor_comm (q % 256) (q / 256 * 2 ^ 8) ∙ xor_shifted (q / 256) 8 (q % 256) (omega arith) ∙ omega arith

-- what a column of rows gives of one byte, by Horner's rule
pub column : (ℕ → ℕ → ℕ) → ℕ → ℕ → ℕ → ℕ
column row zero b c = 0
column row (suc k) b c = bit_xor (row b c) (raised 8 (column row k (b + 1) c))

pub column-is : (row : ℕ → ℕ → ℕ) (k b c e : ℕ) → ((i : ℕ) → i < b + k → row i c ≡ byte_of i e) → e < 2 ^ 128 → e < 2 ^ (8 * (b + k)) → column row k b c ≡ e / 2 ^ (8 * b)
unfolding column
column-is row zero b c e at h small =
    let w : 8 * (b + 0) ≡ 8 * b = omega arith in
    let s : e < 2 ^ (8 * b) = rw w at small in
    sym (below e (2 ^ (8 * b)) s)
  where
    below : (e p : ℕ) → e < p → e / p ≡ 0
    below e p h = grind arith
column-is row (suc k) b c e at h small =
    let q : ℕ = e / 2 ^ (8 * b) in
    let w : b + suc k ≡ b + 1 + k = omega arith in
    let rest : column row k (b + 1) c ≡ e / 2 ^ (8 * (b + 1)) = column-is row k (b + 1) c e (λ i l. at i (omega arith)) h (rw w at small) in
    let up : 8 * (b + 1) ≡ 8 * b + 8 = omega arith in
    let next : e / 2 ^ (8 * (b + 1)) ≡ q / 256 = ap (λ (j : ℕ). e / 2 ^ j) up ∙ sym (shr-shr e (8 * b) 8) in
    let lq : q < 2 ^ 128 = less e (2 ^ (8 * b)) h in
    ap (λ (z : ℕ). bit_xor z (raised 8 (column row k (b + 1) c))) (at b (omega arith)) ∙ ap (λ (z : ℕ). bit_xor (q % 256) (raised 8 z)) (rest ∙ next) ∙ byte-and-rest q lq
  where
    less : (e p : ℕ) → e < 2 ^ 128 → e / p < 2 ^ 128
    less e p h = grind arith

-- ---- all bytes

pub number-lt : (n : ℕ) (cs : List ℕ) → AreBytes cs → length cs ≤ n → number_l 256 cs < 2 ^ (8 * n)
number-lt zero [] h l = omega arith
number-lt (suc n) [] h l = pow_pos (8 * suc n)
number-lt zero (c ∷ cs) h l = absurd (omega arith)
number-lt (suc n) (c ∷ cs) h l =
    let r : number_l 256 cs < 2 ^ (8 * n) = number-lt n cs h.1 (omega arith) in
    let w : 8 * suc n ≡ 8 * n + 8 = omega arith in
    rw w (more (2 ^ (8 * n)) (2 ^ (8 * n + 8)) (pow8 (8 * n)) (omega arith))
  where
    pow8 : (k : ℕ) → 2 ^ (k + 8) ≡ 256 * 2 ^ k
    pow8 k = pow-add 2 k 8 ∙ omega arith

    more : (p q : ℕ) → q ≡ 256 * p → number_l 256 cs < p → c + 256 * number_l 256 cs < q
    more p q e r = omega (arith, h.0)

-- a byte before others
number-cons : (c : ℕ) (cs : List ℕ) → c < 256 → number_l 256 cs < 2 ^ 120 → number_l 256 (c ∷ cs) ≡ bit_xor c (raised 8 (number_l 256 cs))
number-cons c cs hc hn =
    let n : ℕ = number_l 256 cs in
    sym (ap (bit_xor c) (raised-low 8 n (omega arith)) ∙ xor_comm c (n * 2 ^ 8) ∙ xor_shifted n 8 c (omega arith) ∙ omega arith)

-- what the rows from b on give of all bytes, by Horner's rule
pub summed_rows : (ℕ → ℕ → ℕ) → ℕ → ℕ → List ℕ → ℕ
summed_rows row zero b cs = 0
summed_rows row (suc k) b cs = bit_xor (number_l 256 (map (row b) cs)) (raised 8 (summed_rows row k (b + 1) cs))

mapped : (row : ℕ → ℕ → ℕ) (b : ℕ) (cs : List ℕ) → ((b c : ℕ) → b < 16 → c < 256 → row b c < 256) → b < 16 → AreBytes cs → AreBytes (map (row b) cs)
mapped row b [] small h bytes = tt
mapped row b (c ∷ cs) small h bytes = (small b c h bytes.0, mapped row b cs small h bytes.1)

length-mapped : (f : ℕ → ℕ) (cs : List ℕ) → length (map f cs) ≡ length cs
length-mapped f [] = refl
length-mapped f (c ∷ cs) = ap suc (length-mapped f cs)

row-lt : (n : ℕ) (row : ℕ → ℕ → ℕ) (b : ℕ) (cs : List ℕ) → ((b c : ℕ) → b < 16 → c < 256 → row b c < 256) → b < 16 → AreBytes cs → length cs ≤ n → number_l 256 (map (row b) cs) < 2 ^ (8 * n)
row-lt n row b cs small h bytes few = number-lt n (map (row b) cs) (mapped row b cs small h bytes) (omega (arith, length-mapped (row b) cs))

summed_rows-lt : (row : ℕ → ℕ → ℕ) (k b : ℕ) (cs : List ℕ) → ((b c : ℕ) → b < 16 → c < 256 → row b c < 256) → b + k ≤ 16 → AreBytes cs → length cs ≤ 16 → summed_rows row k b cs < 2 ^ 128
unfolding summed_rows
summed_rows-lt row zero b cs small h bytes few = omega arith
summed_rows-lt row (suc k) b cs small h bytes few =
    xor_lt 128 (number_l 256 (map (row b) cs)) (raised 8 (summed_rows row k (b + 1) cs)) (row-lt 16 row b cs small (omega arith) bytes few)
    (raised-lt 8 (summed_rows row k (b + 1) cs) (summed_rows-lt row k (b + 1) cs small (omega arith) bytes few))

column-lt : (row : ℕ → ℕ → ℕ) (k b c : ℕ) → ((b c : ℕ) → b < 16 → c < 256 → row b c < 256) → b + k ≤ 16 → c < 256 → column row k b c < 2 ^ 128
unfolding column
column-lt row zero b c small h hc = omega arith
column-lt row (suc k) b c small h hc =
    xor_lt 128 (row b c) (raised 8 (column row k (b + 1) c)) (omega (arith, small b c (omega arith) hc)) (raised-lt 8 (column row k (b + 1) c) (column-lt row k (b + 1) c small (omega arith) hc))

summed_rows-none : (row : ℕ → ℕ → ℕ) (k b : ℕ) → summed_rows row k b [] ≡ 0
unfolding summed_rows
summed_rows-none row zero b = refl
summed_rows-none row (suc k) b = ap (λ (z : ℕ). bit_xor 0 (raised 8 z)) (summed_rows-none row k (b + 1)) ∙ ap (bit_xor 0) (raised-zero 8) ∙ xor_zero_r 0

-- one byte more
summed_rows-cons : (row : ℕ → ℕ → ℕ) (k b c : ℕ) (cs : List ℕ) → ((b c : ℕ) → b < 16 → c < 256 → row b c < 256) → b + k ≤ 16 → c < 256 → AreBytes cs → length cs ≤ 15
    → summed_rows row k b (c ∷ cs) ≡ bit_xor (column row k b c) (raised 8 (summed_rows row k b cs))
unfolding summed_rows column
summed_rows-cons row zero b c cs small h hc bytes few = sym (ap (bit_xor 0) (raised-zero 8) ∙ xor_zero_r 0)
summed_rows-cons row (suc k) b c cs small h hc bytes few =
    let r : ℕ = row b c in
    let n : ℕ = number_l 256 (map (row b) cs) in
    let d : ℕ = column row k (b + 1) c in
    let g : ℕ = summed_rows row k (b + 1) cs in
    let ln : n < 2 ^ 120 = row-lt 15 row b cs small (omega arith) bytes few in
    let lg : g < 2 ^ 128 = summed_rows-lt row k (b + 1) cs small (omega arith) bytes (omega arith) in
    let ld : d < 2 ^ 128 = column-lt row k (b + 1) c small (omega arith) hc in
    let left : number_l 256 (map (row b) (c ∷ cs)) ≡ bit_xor r (raised 8 n) = number-cons r (map (row b) cs) (small b c (omega arith) hc) ln in
    let rest : raised 8 (summed_rows row k (b + 1) (c ∷ cs)) ≡ bit_xor (raised 8 d) (raised 8 (raised 8 g)) =
    ap (raised 8) (summed_rows-cons row k (b + 1) c cs small (omega arith) hc bytes few) ∙ raised-xor 8 d (raised 8 g) ld (raised-lt 8 g lg) in
    ap (λ (z : ℕ). bit_xor z (raised 8 (summed_rows row k (b + 1) (c ∷ cs)))) left ∙ ap (bit_xor (bit_xor r (raised 8 n))) rest
    ∙ xor-swap r (raised 8 n) (raised 8 d) (raised 8 (raised 8 g))
    ∙ ap (bit_xor (bit_xor r (raised 8 d))) (sym (raised-xor 8 n (raised 8 g) (omega arith) (raised-lt 8 g lg)))

-- the rows together give the product
pub summed_rows-is : (row : ℕ → ℕ → ℕ) (h : ℕ) (cs : List ℕ) → ((b c : ℕ) → b < 16 → c < 256 → row b c ≡ byte_of b (block_product c h)) → h < 2 ^ 128 → AreBytes cs → length cs ≤ 16
    → summed_rows row 16 0 cs ≡ block_product (number_l 256 cs) h
summed_rows-is row h [] at lh bytes few = summed_rows-none row 16 0 ∙ sym (block_product-zero h)
summed_rows-is row h (c ∷ cs) at lh bytes few =
    let small : (b d : ℕ) → b < 16 → d < 256 → row b d < 256 = λ b d hb hd. omega (arith, at b d hb hd) in
    let n : ℕ = number_l 256 cs in
    let e : ℕ = block_product c h in
    let le : e < 2 ^ 128 = block_product-lt c h lh in
    let ln : n < 2 ^ 120 = number-lt 15 cs bytes.1 (omega arith) in
    let one : column row 16 0 c ≡ e = column-is row 16 0 c e (λ i l. at i c (omega arith) bytes.0) le (omega arith) ∙ omega arith in
    let up : raised 8 (block_product n h) ≡ block_product (n * 2 ^ 8) h = sym (product-raised 8 n h (omega arith)) in
    summed_rows-cons row 16 0 c cs small (omega arith) bytes.0 bytes.1 (omega arith)
    ∙ ap (λ (z : ℕ). bit_xor z (raised 8 (summed_rows row 16 0 cs))) one
    ∙ ap (λ (z : ℕ). bit_xor e (raised 8 z)) (summed_rows-is row h cs at lh bytes.1 (omega arith))
    ∙ ap (bit_xor e) up ∙ sym (block_product-xor c (n * 2 ^ 8) h lh)
    ∙ ap (λ (z : ℕ). block_product z h) (xor_comm c (n * 2 ^ 8) ∙ xor_shifted n 8 c (omega (arith, bytes.0)) ∙ omega arith)

-- ---- what a row holds

pub row_at-is : (h : ℕ) (rows : List ℕ) (b c : ℕ) → IsRows h rows → length rows ≡ 512 → h < 2 ^ 128 → b < 16 → c < 256 → row_at rows b c ≡ byte_of b (block_product c h)
row_at-is h rows b c is len lh hb hc =
    let low : bit_and c 15 ≡ c % 16 = at_each_byte (λ x. bit_and x 15) (λ x. x % 16) refl c hc in
    let lowest : c % 16 < 16 = omega arith in
    let highest : c / 16 < 16 = omega arith in
    let f : ℕ = c % 16 in
    let g : ℕ = 16 * (c / 16) in
    let first : entry_of (take 16 (drop (32 * b) rows)) (bit_and c 15) ≡ byte_of b (block_product f h) =
    ap (entry_of (take 16 (drop (32 * b) rows))) low ∙ entry (take 16 (drop (32 * b) rows)) f lowest
    ∙ get_or-chunk (32 * b) 16 rows f 0 lowest ∙ is b f hb (omega arith) ∙ ap (λ (z : ℕ). byte_of b (block_product z h)) (low_factor f lowest) in
    let second : entry_of (take 16 (drop (32 * b + 16) rows)) (c / 2 ^ 4) ≡ byte_of b (block_product g h) =
    entry (take 16 (drop (32 * b + 16) rows)) (c / 16) highest
    ∙ get_or-chunk (32 * b + 16) 16 rows (c / 16) 0 highest ∙ ap (slice_index rows) (omega arith) ∙ is b (16 + c / 16) hb (omega arith)
    ∙ ap (λ (z : ℕ). byte_of b (block_product z h)) (high_factor (c / 16)) in
    let whole : bit_xor f g ≡ c = xor_comm f g ∙ ap (λ (z : ℕ). bit_xor z f) (omega arith) ∙ xor_shifted (c / 16) 4 f lowest ∙ omega arith in
    ap (λ (z : ℕ). bit_xor z (entry_of (take 16 (drop (32 * b + 16) rows)) (c / 2 ^ 4))) first ∙ ap (bit_xor (byte_of b (block_product f h))) second
    ∙ sym (bytes-xor b (block_product f h) (block_product g h)) ∙ ap (byte_of b) (sym (block_product-xor f g h lh) ∙ ap (λ (z : ℕ). block_product z h) whole)
  where
    entry : (table : List ℕ) (j : ℕ) → j < 16 → entry_of table j ≡ slice_index table j
    entry table j l = grind (arith, nat_tests)

    low_factor : (f : ℕ) → f < 16 → factor_of f ≡ f
    low_factor f l = grind (arith, nat_tests)

    high_factor : (n : ℕ) → factor_of (16 + n) ≡ 16 * n
    high_factor n = grind (arith, nat_tests)

    bytes-xor : (b p q : ℕ) → byte_of b (bit_xor p q) ≡ bit_xor (byte_of b p) (byte_of b q)
    bytes-xor b p q = ap (λ (z : ℕ). z % 2 ^ 8) (xor_shr p q (8 * b)) ∙ xor_mod (p / 2 ^ (8 * b)) (q / 2 ^ (8 * b)) 8

-- ---- the digits of a number

pub number-digits : (n x : ℕ) → number_l 256 (digits_l 256 n x) ≡ x % 2 ^ (8 * n)
number-digits zero x = omega arith
number-digits (suc n) x =
    let w : 8 * suc n ≡ 8 * n + 8 = omega arith in
    ap (λ (z : ℕ). x % 256 + 256 * z) (number-digits n (x / 256)) ∙ turned (x % 256) (x / 256 % 2 ^ (8 * n)) ∙ sym (ap (λ (k : ℕ). x % 2 ^ k) w ∙ mod-pow-add x (8 * n) 8)
  where
    turned : (a b : ℕ) → a + 256 * b ≡ b * 2 ^ 8 + a
    turned a b = omega arith

pub digits-bytes : (n x : ℕ) → AreBytes (digits_l 256 n x)
digits-bytes zero x = tt
digits-bytes (suc n) x = (omega arith, digits-bytes n (x / 256))

pub length-digits : (n x : ℕ) → length (digits_l 256 n x) ≡ n
length-digits zero x = refl
length-digits (suc n) x = ap suc (length-digits n (x / 256))

-- what is above the low part stays small
below : (j high : ℕ) → j < 15 → high < 2 ^ (8 * j) → high < 2 ^ 120
below j high lj lh =
    let w : 8 * j + (120 - 8 * j) ≡ 120 = omega arith in
    wide high (2 ^ (8 * j)) (2 ^ (120 - 8 * j)) (sym (pow-add 2 (8 * j) (120 - 8 * j)) ∙ ap (λ (k : ℕ). 2 ^ k) w) lh (pow_pos (120 - 8 * j))
  where
    wide : (h p q : ℕ) → p * q ≡ 2 ^ 120 → h < p → 0 < q → h < 2 ^ 120
    wide h p q e l m = grind arith

-- one row more
rows-more : (row : ℕ → ℕ → ℕ) (j b : ℕ) (l : List ℕ) → j < 15 → b ≡ 14 - j → bit_xor (number_l 256 (map (row b) l)) (raised 8 (summed_rows row (j + 1) (15 - j) l)) ≡ summed_rows row (j + 1 + 1) (15 - (j + 1)) l
unfolding summed_rows
rows-more row j b l lj eb =
    let count : j + 1 + 1 ≡ suc (j + 1) = omega arith in
    let place : 15 - (j + 1) ≡ b = omega arith in
    let before : b + 1 ≡ 15 - j = omega arith in
    ap (λ (z : ℕ). bit_xor (number_l 256 (map (row b) l)) (raised 8 (summed_rows row (j + 1) z l))) (sym before)
    ∙ sym (ap (λ (z : ℕ). summed_rows row z (15 - (j + 1)) l) count ∙ ap (λ (z : ℕ). summed_rows row (suc (j + 1)) z l) place)

-- a loop over the rows of two products, from the last but one down
pub rows-step : (r s : ℕ → ℕ → ℕ) (j b low high n : ℕ) (cs ds : List ℕ) → j < 15 → b ≡ 14 - j
    → folded low high ≡ bit_xor (summed_rows r (j + 1) (15 - j) cs) (summed_rows s (j + 1) (15 - j) ds) → low < 2 ^ 128 → high < 2 ^ (8 * j) → n < 2 ^ 128
    → n ≡ bit_xor (number_l 256 (map (r b) cs)) (number_l 256 (map (s b) ds)) → summed_rows r (j + 1) (15 - j) cs < 2 ^ 128 → summed_rows s (j + 1) (15 - j) ds < 2 ^ 128
    → folded (bit_xor (low * 256 % 2 ^ 128) n) (bit_xor (high * 256 % 2 ^ 128) (low / 2 ^ 120)) ≡ bit_xor (summed_rows r (j + 1 + 1) (15 - (j + 1)) cs) (summed_rows s (j + 1 + 1) (15 - (j + 1)) ds)
rows-step r s j b low high n cs ds lj eb held ll lh ln en lr ls =
    let lt : high < 2 ^ 120 = below j high lj lh in
    let fits : high * 256 % 2 ^ 128 ≡ high * 256 = omega arith in
    let p : ℕ = summed_rows r (j + 1) (15 - j) cs in
    let q : ℕ = summed_rows s (j + 1) (15 - j) ds in
    ap (λ (z : ℕ). folded (bit_xor (low * 256 % 2 ^ 128) n) (bit_xor z (low / 2 ^ 120))) fits
    ∙ folded-step low high n ll lt ln ∙ ap (λ (z : ℕ). bit_xor z (raised 8 (folded low high))) en
    ∙ ap (λ (z : ℕ). bit_xor (bit_xor (number_l 256 (map (r b) cs)) (number_l 256 (map (s b) ds))) z) (ap (raised 8) held ∙ raised-xor 8 p q lr ls)
    ∙ xor-swap (number_l 256 (map (r b) cs)) (number_l 256 (map (s b) ds)) (raised 8 p) (raised 8 q)
    ∙ ap (λ (z : ℕ). bit_xor z (bit_xor (number_l 256 (map (s b) ds)) (raised 8 q))) (rows-more r j b cs lj eb) ∙ ap (bit_xor (summed_rows r (j + 1 + 1) (15 - (j + 1)) cs)) (rows-more s j b ds lj eb)

pub rows-high : (j low high : ℕ) → j < 15 → low < 2 ^ 128 → high < 2 ^ (8 * j) → bit_xor (high * 256 % 2 ^ 128) (low / 2 ^ 120) < 2 ^ (8 * (j + 1))
rows-high j low high lj ll lh =
    let w : 8 * (j + 1) ≡ 8 * j + 8 = omega arith in
    let big : 2 ^ (8 * (j + 1)) ≡ 256 * 2 ^ (8 * j) = ap (λ (k : ℕ). 2 ^ k) w ∙ pow-add 2 (8 * j) 8 ∙ omega arith in
    let pos : 0 < 2 ^ (8 * j) = pow_pos (8 * j) in
    xor_lt (8 * (j + 1)) (high * 256 % 2 ^ 128) (low / 2 ^ 120) (omega arith) (omega arith)

-- the first row
rows-alone : (row : ℕ → ℕ → ℕ) (l : List ℕ) → number_l 256 (map (row 15) l) ≡ summed_rows row 1 15 l
unfolding summed_rows
rows-alone row l = sym (ap (bit_xor (number_l 256 (map (row 15) l))) (raised-zero 8) ∙ xor_zero_r (number_l 256 (map (row 15) l)))

pub rows-first : (r s : ℕ → ℕ → ℕ) (n : ℕ) (cs ds : List ℕ) → n ≡ bit_xor (number_l 256 (map (r 15) cs)) (number_l 256 (map (s 15) ds)) → folded n 0 ≡ bit_xor (summed_rows r 1 15 cs) (summed_rows s 1 15 ds)
rows-first r s n cs ds e =
    ap (bit_xor n) (raised-zero 128) ∙ xor_zero_r n ∙ e ∙ ap (λ (z : ℕ). bit_xor z (number_l 256 (map (s 15) ds))) (rows-alone r cs) ∙ ap (bit_xor (summed_rows r 1 15 cs)) (rows-alone s ds)

-- the rows of a product
product_byte-lt : (h b c : ℕ) → product_byte h b c < 256
product_byte-lt h b c = omega arith

pub product_rows-lt : (h k b : ℕ) (cs : List ℕ) → b + k ≤ 16 → AreBytes cs → length cs ≤ 16 → summed_rows (product_byte h) k b cs < 2 ^ 128
product_rows-lt h k b cs l bytes few = summed_rows-lt (product_byte h) k b cs (λ i c hi hc. product_byte-lt h i c) l bytes few

pub product_rows-is : (h : ℕ) (cs : List ℕ) → h < 2 ^ 128 → AreBytes cs → length cs ≤ 16 → summed_rows (product_byte h) 16 0 cs ≡ block_product (number_l 256 cs) h
product_rows-is h cs lh bytes few = summed_rows-is (product_byte h) h cs (λ b c hb hc. refl) lh bytes few

-- ---- rows that are written place by place

pub byte-of-digits : (e b : ℕ) → b < 16 → slice_index (to_le_bytes w128 e) b ≡ byte_of b e
byte-of-digits e b h =
    sym (get_or-map-range_with_len (λ (i : ℕ). slice_index (to_le_bytes w128 e) i) 0 16 b b 0 h (omega arith))
    ∙ ap (λ l. get_or l b 0) same ∙ get_or-map-range_with_len (λ i. byte_of i e) 0 16 b b 0 h (omega arith)
  where
    same : map (λ (i : ℕ). slice_index (to_le_bytes w128 e) i) (range_with_len 0 16) ≡ map (λ i. byte_of i e) (range_with_len 0 16)
    same =
        let one : e / 1 ≡ e = omega arith in
        rw one refl

pub column-written : (rows old : List ℕ) (b place product byte : ℕ) → b < 16 → place < 32 → length rows ≡ 512
    → ((i : ℕ) → i < b → slice_index rows (32 * i + place) ≡ byte_of i product)
    → ((i other : ℕ) → i < 16 → other < place → slice_index rows (32 * i + other) ≡ slice_index old (32 * i + other)) → byte ≡ byte_of b product
    → (length (set rows (32 * b + place) byte) ≡ 512) × ((i : ℕ) → i < b + 1 → slice_index (set rows (32 * b + place) byte) (32 * i + place) ≡ byte_of i product)
    × ((i other : ℕ) → i < 16 → other < place → slice_index (set rows (32 * b + place) byte) (32 * i + other) ≡ slice_index old (32 * i + other))
column-written rows old b place product byte hb hp len written others e = (
  length-set rows (32 * b + place) byte ∙ len,
  λ i l. elim (cases_lt i b) [
    | inl lt ↦ get_or-set_other rows (32 * b + place) (32 * i + place) byte 0 (λ same. absurd (omega (arith, same))) ∙ written i lt
    | inr ge ↦
        let is : i ≡ b = omega arith in
        rw is (get_or-set_same rows (32 * b + place) byte 0 (omega arith) ∙ e)
  ],
  λ i other l m. get_or-set_other rows (32 * b + place) (32 * i + other) byte 0 (λ same. absurd (omega (arith, same))) ∙ others i other l m,
)
