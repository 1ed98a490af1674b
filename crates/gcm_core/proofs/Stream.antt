-- Counter blocks, sums of bytes, and GCTR piece by piece.
use Rattle.std.proofs.Common.{◌≡◌, ◌↔◌, ℕ, zero, suc, ◌+◌, ◌-◌, ◌*◌, ◌/◌, ◌%◌, ◌^◌, ◌<◌, ◌≤◌, min, List, [], ◌∷◌, ◌++◌, length, take, drop, slice_index, IsTrue, refl, sym, ap, ◌∙◌, arith, inl, inr, below_more, take-add, length-append, length-drop}
use Rattle.std.specs.Prelude.{◌&&◌, Bool, bit_xor}
use Rattle.std.specs.Int.{div_ceil, from_be_bytes, to_be_bytes, w32}
use Rattle.std.proofs.lemmas.Bool.{and_from, and_parts, cases_lt}
use Rattle.std.proofs.lemmas.Grind.{same_number_lists}
use Rattle.std.proofs.lemmas.List.{append_assoc, append-nil, drop-append-le, drop-drop, drop-take, drop_all, drop_more, length-take, nil_from_length, take-append-drop, take-append-le, take-take, take_all, take_min}
use Rattle.std.proofs.lemmas.Slice.{drop-put_mid, take-put_mid}
use borrow.Rule.Slice.PartMut.{post_of, put_mid}
use lib.Lanes.{zip2}
use lib.Bits.{xor_assoc, xor_self, xor_zero_r}
use Rattle.gcm_core.specs.Aes.{xor_bytes}
use Rattle.gcm_core.specs.private.Counters.{counter_after}
use Rattle.gcm_core.specs.Gcm.{gctr, gctr_blocks, inc32}

-- ---- a counter block

-- the last four bytes of a block
last_four : (b : List ℕ) → length b ≡ 16 → drop 12 b ≡ slice_index b 12 ∷ slice_index b 13 ∷ slice_index b 14 ∷ slice_index b 15 ∷ []
last_four b len =
    drop_more b 12 0 (omega arith) ∙ ap (λ (t : List ℕ). slice_index b 12 ∷ t) (drop_more b 13 0 (omega arith)
    ∙ ap (λ (t : List ℕ). slice_index b 13 ∷ t) (drop_more b 14 0 (omega arith) ∙ ap (λ (t : List ℕ). slice_index b 14 ∷ t) (drop_more b 15 0 (omega arith)
    ∙ ap (λ (t : List ℕ). slice_index b 15 ∷ t) (drop_all 16 b (omega arith)))))

pub inc32_written : (b ys : List ℕ) (n : ℕ) → length b ≡ 16 → n ≡ from_be_bytes w32 (slice_index b 12 ∷ slice_index b 13 ∷ slice_index b 14 ∷ slice_index b 15 ∷ [])
    → ys ≡ to_be_bytes w32 ((n + 1) % 2 ^ 32) → put_mid 12 4 b ys ≡ inc32 b
unfolding inc32
inc32_written b ys n len en ey =
    let none : post_of 12 4 b ≡ [] = drop_all 4 (drop 12 b) (omega (arith, length-drop 12 b)) in
    let count : n ≡ from_be_bytes w32 (drop 12 b) = en ∙ ap (from_be_bytes w32) (sym (last_four b len)) in
    ap (λ (t : List ℕ). take 12 b ++ (ys ++ t)) none ∙ ap (λ (t : List ℕ). take 12 b ++ t) (append-nil ys ∙ ey ∙ ap (λ (k : ℕ). to_be_bytes w32 ((k + 1) % 2 ^ 32)) count)

-- ---- sums of bytes

pub length-xor_bytes : (xs ys : List ℕ) → length xs ≤ length ys → length (xor_bytes xs ys) ≡ length xs
length-xor_bytes [] ys h = refl
length-xor_bytes (x ∷ xs) [] h = absurd (omega arith)
length-xor_bytes (x ∷ xs) (y ∷ ys) h = ap suc (length-xor_bytes xs ys (omega arith))

-- the sum of two vectors
pub zip2-xor_bytes : (xs ys : List ℕ) → zip2 bit_xor xs ys ≡ xor_bytes xs ys
zip2-xor_bytes [] ys = refl
zip2-xor_bytes (x ∷ xs) [] = refl
zip2-xor_bytes (x ∷ xs) (y ∷ ys) = ap (λ (zs : List ℕ). bit_xor x y ∷ zs) (zip2-xor_bytes xs ys)

slice_index-xor_bytes : (xs ys : List ℕ) (k : ℕ) → length xs ≤ length ys → k < length xs → slice_index (xor_bytes xs ys) k ≡ bit_xor (slice_index xs k) (slice_index ys k)
slice_index-xor_bytes [] ys k h l = absurd (omega arith)
slice_index-xor_bytes (x ∷ xs) [] k h l = absurd (omega arith)
slice_index-xor_bytes (x ∷ xs) (y ∷ ys) zero h l = refl
slice_index-xor_bytes (x ∷ xs) (y ∷ ys) (suc k) h l = slice_index-xor_bytes xs ys k (omega arith) (omega arith)

pub xor_bytes_filled : (out xs ys : List ℕ) → length out ≡ length xs → length xs ≤ length ys
    → ((k : ℕ) → k < length xs → slice_index out k ≡ bit_xor (slice_index xs k) (slice_index ys k)) → out ≡ xor_bytes xs ys
xor_bytes_filled out xs ys len h at =
    same_number_lists out (xor_bytes xs ys) (len ∙ sym (length-xor_bytes xs ys h)) (λ k l. at k (omega arith) ∙ sym (slice_index-xor_bytes xs ys k h (omega arith)))

-- the same sum twice
pub xor_bytes-twice : (xs ys : List ℕ) → length xs ≤ length ys → xor_bytes (xor_bytes xs ys) ys ≡ xs
xor_bytes-twice [] ys h = refl
xor_bytes-twice (x ∷ xs) [] h = absurd (omega arith)
xor_bytes-twice (x ∷ xs) (y ∷ ys) h =
    let byte : bit_xor (bit_xor x y) y ≡ x = xor_assoc x y y ∙ ap (bit_xor x) (xor_self y) ∙ xor_zero_r x in
    ap (λ (z : ℕ). z ∷ xor_bytes (xor_bytes xs ys) ys) byte ∙ ap (λ (t : List ℕ). x ∷ t) (xor_bytes-twice xs ys (omega arith))

-- ---- equal tags

-- one byte more
pub same_so_far-more : (so_far here : Bool) (i : ℕ) (a b : List ℕ) → IsTrue so_far ↔ ((k : ℕ) → k < i → slice_index a k ≡ slice_index b k) → IsTrue here ↔ (slice_index a i ≡ slice_index b i)
    → IsTrue (so_far && here) ↔ ((k : ℕ) → k < i + 1 → slice_index a k ≡ slice_index b k)
same_so_far-more so_far here i a b all one = (
  λ t.
      let parts = and_parts so_far here t in
      below_more (λ (k : ℕ). slice_index a k ≡ slice_index b k) i (all.0 parts.0) (one.0 parts.1),
  λ same. and_from so_far here (all.1 (λ k h. same k (omega arith))) (one.1 (same i (omega arith))),
)

pub same_from_all : (same : Bool) (i n : ℕ) (a b : List ℕ) → IsTrue same ↔ ((k : ℕ) → k < i → slice_index a k ≡ slice_index b k) → i ≡ n → length a ≡ n → length b ≡ n → IsTrue same ↔ (a ≡ b)
same_from_all same i n a b all ei la lb = (
  λ t. same_number_lists a b (la ∙ sym lb) (λ k h. all.0 t k (omega arith)),
  λ e. all.1 (λ k h. ap (λ (z : List ℕ). slice_index z k) e),
)

-- ---- GCTR

pub gctr_blocks-next : (ciph : List ℕ → List ℕ) (n : ℕ) (cb x : List ℕ) → gctr_blocks ciph (suc n) cb x ≡ xor_bytes (take 16 x) (ciph cb) ++ gctr_blocks ciph n (inc32 cb) (drop 16 x)
unfolding gctr_blocks
gctr_blocks-next ciph n cb x = refl

pub gctr_blocks-none : (ciph : List ℕ → List ℕ) (cb x : List ℕ) → gctr_blocks ciph 0 cb x ≡ []
unfolding gctr_blocks
gctr_blocks-none ciph cb x = refl

-- what stands after a write behind `a`, where it fills a block or ends the list
take-written : (a k n : ℕ) (xs ys : List ℕ) → a ≤ length xs → length ys ≡ k → k ≡ min 16 (length xs - a) → n ≡ a + 16 → take n (put_mid a k xs ys) ≡ take a xs ++ ys
take-written a k n xs ys fits len ek en = elim (cases_lt (length xs - a) 16) [
  | inl lt ↦
      let none : post_of a k xs ≡ [] = drop_all k (drop a xs) (omega (arith, length-drop a xs)) in
      let front : length (take a xs) ≡ a = length-take a xs ∙ omega arith in
      let whole : put_mid a k xs ys ≡ take a xs ++ ys = ap (λ (t : List ℕ). take a xs ++ (ys ++ t)) none ∙ ap (λ (t : List ℕ). take a xs ++ t) (append-nil ys) in
      ap (take n) whole ∙ take_all n (take a xs ++ ys) (omega (arith, length-append (take a xs) ys))
  | inr ge ↦ take-put_mid a k xs ys n (omega arith) fits
]

-- one block more
pub gctr_blocks-step : (ciph : List ℕ → List ℕ) (i m k : ℕ) (cb next text stream ys : List ℕ) → i < m → 16 * i ≤ length text → k ≡ min 16 (length text - 16 * i)
    → length stream ≡ 16 → stream ≡ ciph cb → next ≡ inc32 cb → ys ≡ xor_bytes (take k (drop (16 * i) text)) stream
    → take (16 * (i + 1)) (put_mid (16 * i) k text ys) ++ gctr_blocks ciph (m - (i + 1)) next (drop (16 * (i + 1)) (put_mid (16 * i) k text ys))
    ≡ take (16 * i) text ++ gctr_blocks ciph (m - i) cb (drop (16 * i) text)
gctr_blocks-step ciph i m k cb next text stream ys lt fits ek ls es en ey =
    let a : ℕ = 16 * i in
    let n : ℕ = 16 * (i + 1) in
    let x : List ℕ = drop a text in
    let lx : length x ≡ length text - a = length-drop a text in
    let part : length (take k x) ≡ k = length-take k x ∙ omega arith in
    let ly : length ys ≡ k = ap length ey ∙ length-xor_bytes (take k x) stream (omega arith) ∙ part in
    let same : take k x ≡ take 16 x = ap (λ (j : ℕ). take j x) (omega arith) ∙ take_min 16 x in
    let block : ys ≡ xor_bytes (take 16 x) (ciph cb) = ey ∙ ap (λ (z : List ℕ). xor_bytes z stream) same ∙ ap (xor_bytes (take 16 x)) es in
    let done : take n (put_mid a k text ys) ≡ take a text ++ ys = take-written a k n text ys fits ly ek (omega arith) in
    let left : drop n (put_mid a k text ys) ≡ drop 16 x =
    drop-put_mid a k text ys n (omega arith) fits ly ∙ sym (drop-drop 16 a text ∙ ap (λ (j : ℕ). drop j text) (omega arith)) in
    let count : m - i ≡ suc (m - (i + 1)) = omega arith in
    let rest : List ℕ = gctr_blocks ciph (m - (i + 1)) (inc32 cb) (drop 16 x) in
    let whole : gctr_blocks ciph (m - i) cb x ≡ ys ++ rest =
    ap (λ (j : ℕ). gctr_blocks ciph j cb x) count ∙ gctr_blocks-next ciph (m - (i + 1)) cb x ∙ ap (λ (z : List ℕ). z ++ rest) (sym block) in
    ap (λ (z : List ℕ). z ++ gctr_blocks ciph (m - (i + 1)) next (drop n (put_mid a k text ys))) done
    ∙ ap (λ (z : List ℕ). (take a text ++ ys) ++ gctr_blocks ciph (m - (i + 1)) z (drop n (put_mid a k text ys))) en
    ∙ ap (λ (z : List ℕ). (take a text ++ ys) ++ gctr_blocks ciph (m - (i + 1)) (inc32 cb) z) left
    ∙ append_assoc (take a text) ys rest ∙ ap (λ (z : List ℕ). take a text ++ z) (sym whole)

-- no block more
pub gctr_blocks-done : (ciph : List ℕ → List ℕ) (i m : ℕ) (cb text : List ℕ) → i ≡ m → length text ≤ 16 * i
    → take (16 * i) text ++ gctr_blocks ciph (m - i) cb (drop (16 * i) text) ≡ text
gctr_blocks-done ciph i m cb text e fits =
    let none : m - i ≡ 0 = omega arith in
    ap (λ (z : List ℕ). z ++ gctr_blocks ciph (m - i) cb (drop (16 * i) text)) (take_all (16 * i) text fits)
    ∙ ap (λ (z : List ℕ). text ++ z) (ap (λ (j : ℕ). gctr_blocks ciph j cb (drop (16 * i) text)) none ∙ gctr_blocks-none ciph cb (drop (16 * i) text)) ∙ append-nil text

-- ---- GCTR by groups of four blocks

-- more blocks behind whole ones
pub gctr_blocks-append : (ciph : List ℕ → List ℕ) (m n : ℕ) (cb x y : List ℕ) → length x ≡ 16 * m → gctr_blocks ciph (m + n) cb (x ++ y) ≡ gctr_blocks ciph m cb x ++ gctr_blocks ciph n (counter_after m cb) y
unfolding counter_after
gctr_blocks-append ciph zero n cb x y len =
    let none : x ≡ [] = nil_from_length x (omega arith) in
    let e : 0 + n ≡ n = omega arith in
    rw (none, e) (ap (λ (z : List ℕ). z ++ gctr_blocks ciph n cb y) (sym (gctr_blocks-none ciph cb [])))
gctr_blocks-append ciph (suc m) n cb x y len =
    let e : suc m + n ≡ suc (m + n) = omega arith in
    let front : take 16 (x ++ y) ≡ take 16 x = take-append-le 16 x y (omega arith) in
    let rest : drop 16 (x ++ y) ≡ drop 16 x ++ y = drop-append-le 16 x y (omega arith) in
    let block : List ℕ = xor_bytes (take 16 x) (ciph cb) in
    ap (λ (k : ℕ). gctr_blocks ciph k cb (x ++ y)) e ∙ gctr_blocks-next ciph (m + n) cb (x ++ y)
    ∙ ap (λ (z : List ℕ). xor_bytes z (ciph cb) ++ gctr_blocks ciph (m + n) (inc32 cb) (drop 16 (x ++ y))) front
    ∙ ap (λ (z : List ℕ). block ++ gctr_blocks ciph (m + n) (inc32 cb) z) rest
    ∙ ap (λ (z : List ℕ). block ++ z) (gctr_blocks-append ciph m n (inc32 cb) (drop 16 x) y (omega (arith, length-drop 16 x)))
    ∙ sym (append_assoc block (gctr_blocks ciph m (inc32 cb) (drop 16 x)) (gctr_blocks ciph n (counter_after m (inc32 cb)) y))
    ∙ ap (λ (z : List ℕ). z ++ gctr_blocks ciph n (counter_after m (inc32 cb)) y) (sym (gctr_blocks-next ciph m cb x))

-- four counter blocks on
pub counter_after-four : (a b c d e : List ℕ) → b ≡ inc32 a → c ≡ inc32 b → d ≡ inc32 c → e ≡ inc32 d → e ≡ counter_after 4 a
unfolding counter_after
counter_after-four a b c d e eb ec ed ee = ee ∙ ap inc32 (ed ∙ ap inc32 (ec ∙ ap inc32 eb))

pub counter_after-add : (m n : ℕ) (cb : List ℕ) → counter_after n (counter_after m cb) ≡ counter_after (m + n) cb
unfolding counter_after
counter_after-add zero n cb =
    let e : 0 + n ≡ n = omega arith in
    rw e refl
counter_after-add (suc m) n cb =
    let e : suc m + n ≡ suc (m + n) = omega arith in
    rw e (counter_after-add m n (inc32 cb))

-- four blocks, each with its part of the stream
pub gctr_blocks-four : (ciph : List ℕ → List ℕ) (x a b c d f g p q r s w y u v : List ℕ) → length x ≡ 64 → f ≡ take 32 x → g ≡ drop 32 x → p ≡ take 16 f → q ≡ drop 16 f → r ≡ take 16 g → s ≡ drop 16 g
    → b ≡ inc32 a → c ≡ inc32 b → d ≡ inc32 c → w ≡ xor_bytes p (ciph a) → y ≡ xor_bytes q (ciph b) → u ≡ xor_bytes r (ciph c) → v ≡ xor_bytes s (ciph d)
    → (w ++ y) ++ (u ++ v) ≡ gctr_blocks ciph 4 a x
gctr_blocks-four ciph x a b c d f g p q r s w y u v len ef eg ep eq er es eb ec ed ew ey eu ev =
    let lf : length f ≡ 32 = ap length ef ∙ length-take 32 x ∙ omega arith in
    let lg : length g ≡ 32 = ap length eg ∙ length-drop 32 x ∙ omega arith in
    let p_is : p ≡ take 16 x = ep ∙ ap (take 16) ef ∙ take-take 16 32 x (omega arith) in
    let q_is : q ≡ take 16 (drop 16 x) = eq ∙ ap (drop 16) ef ∙ drop-take 16 16 x in
    let r_is : r ≡ take 16 (drop 16 (drop 16 x)) = er ∙ ap (take 16) (eg ∙ sym (drop-drop 16 16 x)) in
    let s_is : s ≡ take 16 (drop 16 (drop 16 (drop 16 x))) =
    sym (take_all 16 s (omega (arith, ap length es, length-drop 16 g))) ∙ ap (take 16) (es ∙ ap (drop 16) (eg ∙ sym (drop-drop 16 16 x))) in
    let none : gctr_blocks ciph 0 (inc32 d) (drop 16 (drop 16 (drop 16 (drop 16 x)))) ≡ [] = gctr_blocks-none ciph (inc32 d) (drop 16 (drop 16 (drop 16 (drop 16 x)))) in
    let four : gctr_blocks ciph 1 d (drop 16 (drop 16 (drop 16 x))) ≡ v =
    gctr_blocks-next ciph 0 d (drop 16 (drop 16 (drop 16 x))) ∙ ap (λ (z : List ℕ). xor_bytes (take 16 (drop 16 (drop 16 (drop 16 x)))) (ciph d) ++ z) none
    ∙ append-nil (xor_bytes (take 16 (drop 16 (drop 16 (drop 16 x)))) (ciph d)) ∙ ap (λ (z : List ℕ). xor_bytes z (ciph d)) (sym s_is) ∙ sym ev in
    let three : gctr_blocks ciph 2 c (drop 16 (drop 16 x)) ≡ u ++ v =
    gctr_blocks-next ciph 1 c (drop 16 (drop 16 x)) ∙ ap (λ (z : List ℕ). xor_bytes (take 16 (drop 16 (drop 16 x))) (ciph c) ++ gctr_blocks ciph 1 z (drop 16 (drop 16 (drop 16 x)))) (sym ed)
    ∙ ap (λ (z : List ℕ). z ++ gctr_blocks ciph 1 d (drop 16 (drop 16 (drop 16 x)))) (ap (λ (z : List ℕ). xor_bytes z (ciph c)) (sym r_is) ∙ sym eu) ∙ ap (λ (z : List ℕ). u ++ z) four in
    let two : gctr_blocks ciph 3 b (drop 16 x) ≡ y ++ (u ++ v) =
    gctr_blocks-next ciph 2 b (drop 16 x) ∙ ap (λ (z : List ℕ). xor_bytes (take 16 (drop 16 x)) (ciph b) ++ gctr_blocks ciph 2 z (drop 16 (drop 16 x))) (sym ec)
    ∙ ap (λ (z : List ℕ). z ++ gctr_blocks ciph 2 c (drop 16 (drop 16 x))) (ap (λ (z : List ℕ). xor_bytes z (ciph b)) (sym q_is) ∙ sym ey) ∙ ap (λ (z : List ℕ). y ++ z) three in
    append_assoc w y (u ++ v) ∙ sym (gctr_blocks-next ciph 3 a x ∙ ap (λ (z : List ℕ). xor_bytes (take 16 x) (ciph a) ++ gctr_blocks ciph 3 z (drop 16 x)) (sym eb)
    ∙ ap (λ (z : List ℕ). z ++ gctr_blocks ciph 3 b (drop 16 x)) (ap (λ (z : List ℕ). xor_bytes z (ciph a)) (sym p_is) ∙ sym ew) ∙ ap (λ (z : List ℕ). w ++ z) two)

-- whole blocks from byte a on, written behind those that are done
pub gctr_blocks-group : (ciph : List ℕ → List ℕ) (a k p q : ℕ) (icb counter next text0 text ys : List ℕ) → a + k ≤ length text0 → a ≡ 16 * p → length text ≡ length text0 → drop a text ≡ drop a text0
    → take a text ≡ gctr_blocks ciph p icb (take a text0) → counter ≡ counter_after p icb → length ys ≡ k
    → ys ≡ gctr_blocks ciph q counter (take k (drop a text)) → next ≡ counter_after q counter
    → (drop (a + k) (put_mid a k text ys) ≡ drop (a + k) text0)
    × (take (a + k) (put_mid a k text ys) ≡ gctr_blocks ciph (p + q) icb (take (a + k) text0)) × (next ≡ counter_after (p + q) icb)
gctr_blocks-group ciph a k p q icb counter next text0 text ys fits ea len rest done ec ly ey en =
    let n : ℕ = a + k in
    let x : List ℕ = take k (drop a text0) in
    let behind : drop n (put_mid a k text ys) ≡ drop n text0 =
    drop-put_mid a k text ys n (omega arith) (omega arith) (omega arith) ∙ ap (λ (j : ℕ). drop j text) (omega arith) ∙ sym (drop-drop k a text) ∙ ap (drop k) rest ∙ drop-drop k a text0
    ∙ ap (λ (k : ℕ). drop k text0) (omega arith) in
    let front : take n (put_mid a k text ys) ≡ take a text ++ ys = take-put_mid a k text ys n (omega arith) (omega arith) in
    let group : ys ≡ gctr_blocks ciph q (counter_after p icb) x =
    ey ∙ ap (λ (z : List ℕ). gctr_blocks ciph q z (take k (drop a text))) ec ∙ ap (λ (z : List ℕ). gctr_blocks ciph q (counter_after p icb) (take k z)) rest in
    let whole : take n text0 ≡ take a text0 ++ x = take-add a k text0 in
    let la : length (take a text0) ≡ 16 * p = length-take a text0 ∙ omega arith in (
      behind,
      front ∙ ap (λ (z : List ℕ). z ++ ys) done ∙ ap (λ (z : List ℕ). gctr_blocks ciph p icb (take a text0) ++ z) group
          ∙ sym (ap (gctr_blocks ciph (p + q) icb) whole ∙ gctr_blocks-append ciph p q icb (take a text0) x la),
      en ∙ ap (counter_after q) ec ∙ counter_after-add p q icb,
    )

-- one group of four blocks more
pub gctr_fours-step : (ciph : List ℕ → List ℕ) (i k : ℕ) (icb counter next text0 text ys : List ℕ) → 64 * i + 64 ≤ length text0 → k ≡ 64 → length text ≡ length text0 → drop (64 * i) text ≡ drop (64 * i) text0
    → take (64 * i) text ≡ gctr_blocks ciph (4 * i) icb (take (64 * i) text0) → counter ≡ counter_after (4 * i) icb → length ys ≡ 64
    → ys ≡ gctr_blocks ciph 4 counter (take k (drop (64 * i) text)) → next ≡ counter_after 4 counter
    → (drop (64 * (i + 1)) (put_mid (64 * i) k text ys) ≡ drop (64 * (i + 1)) text0)
    × (take (64 * (i + 1)) (put_mid (64 * i) k text ys) ≡ gctr_blocks ciph (4 * (i + 1)) icb (take (64 * (i + 1)) text0)) × (next ≡ counter_after (4 * (i + 1)) icb)
gctr_fours-step ciph i k icb counter next text0 text ys fits ek len rest done ec ly ey en =
    let n : 64 * (i + 1) ≡ 64 * i + k = omega arith in
    let count : 4 * (i + 1) ≡ 4 * i + 4 = omega arith in
    rw (n, count) (gctr_blocks-group ciph (64 * i) k (4 * i) 4 icb counter next text0 text ys (omega arith) (omega arith) len rest done ec (omega arith) ey en)

-- groups of four blocks, and what is left behind them
pub gctr_blocks-whole : (ciph : List ℕ → List ℕ) (n : ℕ) (icb counter text f r out rest : List ℕ) → n ≤ length text → n % 64 ≡ 0 → f ≡ take n text → r ≡ drop n text
    → out ≡ gctr_blocks ciph (length f / 16) icb f → counter ≡ counter_after (length f / 16) icb → rest ≡ gctr ciph counter r → out ++ rest ≡ gctr_blocks ciph (div_ceil (length text) 16) icb text
unfolding gctr
gctr_blocks-whole ciph n icb counter text f r out rest fits four ef er eo ec es =
    let lf : length f ≡ n = ap length ef ∙ length-take n text ∙ omega arith in
    let lr : length r ≡ length text - n = ap length er ∙ length-drop n text in
    let m : ℕ = length f / 16 in
    let k : ℕ = div_ceil (length r) 16 in
    let count : div_ceil (length text) 16 ≡ m + k = omega arith in
    let whole : text ≡ f ++ r = sym (ap (λ (z : List ℕ). z ++ r) ef ∙ ap (λ (z : List ℕ). take n text ++ z) er ∙ take-append-drop n text) in
    let left : rest ≡ gctr_blocks ciph k (counter_after m icb) r = es ∙ ap (λ (z : List ℕ). gctr_blocks ciph k z r) ec in
    ap (λ (z : List ℕ). z ++ rest) eo ∙ ap (λ (z : List ℕ). gctr_blocks ciph m icb f ++ z) left
    ∙ sym (ap (λ (j : ℕ). gctr_blocks ciph j icb text) count ∙ ap (gctr_blocks ciph (m + k) icb) whole ∙ gctr_blocks-append ciph m k icb f r (omega arith))
