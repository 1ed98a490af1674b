-- The steps of a round on the lanes of a vector.
use Rattle.std.proofs.Common.{◌≡◌, ℕ, ◌+◌, ◌-◌, ◌*◌, ◌/◌, ◌%◌, ◌<◌, ◌≤◌, true, List, [], ◌∷◌, ◌++◌, map, length, get_or, slice_index, refl, sym, ap, ◌∙◌, arith, w8, ltb-true, subst, take}
use Rattle.std.specs.Prelude.{bit_xor, nat_lt}
use Rattle.std.proofs.lemmas.List.{get_or-map, length-map}
use Rattle.std.proofs.lemmas.Simd.{Each1-get_or, below_from_Fits, get_or-zip2, get_or-chunk, length-chunk, length-zip2, map-map, pick_l_left}
use lib.Lanes.{chunk, pick_l, zip2}
use Rattle.gcm_core.specs.Aes.{add_round_key, byte_product, cipher, inverse, mix_columns, round_count, s_box, shift_rows, state_after, state_byte, sub_bytes, sub_word}
use Rattle.gcm_core.specs.FieldMul.{product_of, times_x}
use Rattle.gcm_core.specs.private.Nibbles.{IsChanged, IsKey, changed, once, once_changed, twice_changed}
use Rattle.gcm_core.specs.declared.nibbles.TheConstants.{AFFINE}
use Rattle.gcm_core.specs.declared.aes.TheConstants.{SHIFTED, SHIFTED_1, SHIFTED_2, SHIFTED_3}
use Rattle.gcm_core.proofs.Bases.{added, added-none, added-sum, map-below, picked-bytes, picked-map, sum-bytes}
use Rattle.gcm_core.proofs.Bytes.{byte_product-three, byte_product-two}
use Rattle.gcm_core.proofs.Lanes.{IsLanes, at_each_byte, map-bytes}
use Rattle.gcm_core.proofs.Sums.{AreBytes}
use Rattle.gcm_core.proofs.Schedule.{state_after-next}
use Rattle.gcm_core.proofs.States.{state_byte-place, state_of_filled}

-- the S-box of a byte in the other basis, and its value there
pub once-is : (x : ℕ) → x < 256 → once (changed x) ≡ s_box x
unfolding byte_product product_of times_x inverse s_box
once-is x h = at_each_byte (λ y. once (changed y)) s_box refl x h

once_changed-is : (t : ℕ) → t < 256 → once_changed t ≡ added AFFINE (once t)
once_changed-is t h = at_each_byte once_changed (λ y. added AFFINE (once y)) refl t h

-- its double, to which twice the constant belongs
twice_changed-is : (t : ℕ) → t < 256 → twice_changed t ≡ added 198 (byte_product 2 (once t))
unfolding byte_product product_of times_x
twice_changed-is t h = at_each_byte twice_changed (λ y. added 198 (byte_product 2 (once y))) refl t h

once-below : (t : ℕ) → t < 256 → nat_lt (once t) 256 ≡ true
once-below t h = at_each_byte (λ y. nat_lt (once y) 256) (λ y. true) refl t h

double-below : (x : ℕ) → x < 256 → nat_lt (byte_product 2 x) 256 ≡ true
unfolding byte_product product_of times_x
double-below x h = at_each_byte (λ y. nat_lt (byte_product 2 y) 256) (λ y. true) refl x h

below-true : (a : ℕ) → nat_lt a 256 ≡ true → a < 256
below-true a e = ltb-true a 256 e

mapped-bytes : (f : ℕ → ℕ) → ((x : ℕ) → x < 256 → nat_lt (f x) 256 ≡ true) → (s : List ℕ) → AreBytes s → AreBytes (map f s)
mapped-bytes f small [] h = tt
mapped-bytes f small (x ∷ s) h = (below-true (f x) (small x h.0), mapped-bytes f small s h.1)

-- SubBytes
pub sub_bytes-lanes : (s : List ℕ) → length s ≡ 16 → AreBytes s → map (λ x. once (changed x)) s ≡ sub_bytes s
unfolding sub_bytes
sub_bytes-lanes s len bytes =
    state_of_filled (λ r c. s_box (state_byte s r c)) (map (λ x. once (changed x)) s) (length-map s (λ x. once (changed x)) ∙ len) (λ k h.
    get_or-map (λ x. once (changed x)) s k 0 0 (omega arith) ∙ once-is (get_or s k 0) (Each1-get_or (λ x. x < 256) s k 0 (omega arith) bytes)
    ∙ ap s_box (sym (state_byte-place s k h)))

-- SubBytes of a state in the other basis
pub sub_bytes-changed : (s t : List ℕ) → length t ≡ 16 → IsChanged s t → map once t ≡ sub_bytes s
sub_bytes-changed s t len is =
    ap (map once) is.0 ∙ map-map once changed s ∙ sub_bytes-lanes s (sym (length-map s changed) ∙ sym (ap length is.0) ∙ len) is.1

-- four vectors added
abbrev summed : List ℕ → List ℕ → List ℕ → List ℕ → List ℕ
summed p q r s = zip2 bit_xor (zip2 bit_xor (zip2 bit_xor p q) r) s

-- SubBytes, ShiftRows and MixColumns, from the substituted bytes and their doubles
pub mixed-lanes : (a d : List ℕ) → length a ≡ 16 → d ≡ map (byte_product 2) a
    → zip2 bit_xor (zip2 bit_xor (zip2 bit_xor (pick_l 0 (d ++ d) SHIFTED) (pick_l 0 (zip2 bit_xor d a ++ zip2 bit_xor d a) SHIFTED_1)) (pick_l 0 (a ++ a) SHIFTED_2)) (pick_l 0 (a ++ a) SHIFTED_3)
    ≡ mix_columns (shift_rows a)
unfolding mix_columns shift_rows
mixed-lanes a d len ed =
    let long : length d ≡ 16 = ap length ed ∙ length-map a (byte_product 2) ∙ len in
    let both : length (zip2 bit_xor d a) ≡ 16 = length-zip2 bit_xor d a (long ∙ sym len) ∙ long in
    let at_d : (k : ℕ) → k < 16 → get_or d k 0 ≡ byte_product 2 (get_or a k 0) = λ k h. ap (λ l. get_or l k 0) ed ∙ get_or-map (byte_product 2) a k 0 0 (omega arith) in
    let at_t : (k : ℕ) → k < 16 → get_or (zip2 bit_xor d a) k 0 ≡ byte_product 3 (get_or a k 0) =
    λ k h. get_or-zip2 bit_xor d a k 0 0 0 (omega arith) (omega arith) ∙ ap (λ x. bit_xor x (get_or a k 0)) (at_d k h ∙ byte_product-two (get_or a k 0)) ∙ sym (byte_product-three (get_or a k 0)) in
    let t : List ℕ = zip2 bit_xor d a in
    let e0 : pick_l 0 (d ++ d) SHIFTED ≡ map (λ k. byte_product 2 (get_or a k 0)) SHIFTED =
    pick_l_left 0 d d 16 SHIFTED long tt ∙ map-below (λ k. get_or d k 0) (λ k. byte_product 2 (get_or a k 0)) 16 at_d SHIFTED tt in
    let e1 : pick_l 0 (t ++ t) SHIFTED_1 ≡ map (λ k. byte_product 3 (get_or a k 0)) SHIFTED_1 =
    pick_l_left 0 t t 16 SHIFTED_1 both tt ∙ map-below (λ k. get_or t k 0) (λ k. byte_product 3 (get_or a k 0)) 16 at_t SHIFTED_1 tt in
    let e2 : pick_l 0 (a ++ a) SHIFTED_2 ≡ map (λ k. get_or a k 0) SHIFTED_2 = pick_l_left 0 a a 16 SHIFTED_2 len tt in
    let e3 : pick_l 0 (a ++ a) SHIFTED_3 ≡ map (λ k. get_or a k 0) SHIFTED_3 = pick_l_left 0 a a 16 SHIFTED_3 len tt in
    ap (λ l. summed l (pick_l 0 (t ++ t) SHIFTED_1) (pick_l 0 (a ++ a) SHIFTED_2) (pick_l 0 (a ++ a) SHIFTED_3)) e0
    ∙ ap (λ l. summed (map (λ k. byte_product 2 (get_or a k 0)) SHIFTED) l (pick_l 0 (a ++ a) SHIFTED_2) (pick_l 0 (a ++ a) SHIFTED_3)) e1
    ∙ ap (λ l. summed (map (λ k. byte_product 2 (get_or a k 0)) SHIFTED) (map (λ k. byte_product 3 (get_or a k 0)) SHIFTED_1) l (pick_l 0 (a ++ a) SHIFTED_3)) e2
    ∙ ap (summed (map (λ k. byte_product 2 (get_or a k 0)) SHIFTED) (map (λ k. byte_product 3 (get_or a k 0)) SHIFTED_1) (map (λ k. get_or a k 0) SHIFTED_2)) e3

pub shifted-lanes : (a : List ℕ) → length a ≡ 16 → pick_l 0 (a ++ a) SHIFTED ≡ shift_rows a
unfolding shift_rows
shifted-lanes a len = pick_l_left 0 a a 16 SHIFTED len tt

-- AddRoundKey
pub add_round_key-lanes : (s w : List ℕ) (round : ℕ) → length s ≡ 16 → 16 * (round + 1) ≤ length w → zip2 bit_xor s (chunk (16 * round) 16 w) ≡ add_round_key w round s
unfolding add_round_key
add_round_key-lanes s w round len fits =
    let k : List ℕ = chunk (16 * round) 16 w in
    let long : length k ≡ 16 = length-chunk (16 * round) 16 w (omega arith) in
    state_of_filled (λ r c. bit_xor (state_byte s r c) (slice_index w (16 * round + (4 * c + r)))) (zip2 bit_xor s k) (length-zip2 bit_xor s k (len ∙ sym long) ∙ len) (λ i h.
    let place : i ≡ 4 * (i / 4) + i % 4 = omega arith in
    get_or-zip2 bit_xor s k i 0 0 0 (omega arith) (omega arith)
    ∙ ap (bit_xor (get_or s i 0)) (get_or-chunk (16 * round) 16 w i 0 h)
    ∙ ap (λ b. bit_xor b (slice_index w (16 * round + i))) (sym (state_byte-place s i h))
    ∙ ap (λ j. bit_xor (state_byte s (i % 4) (i / 4)) (slice_index w (16 * round + j))) place)

length-mixed : (s : List ℕ) → length (mix_columns s) ≡ 16
unfolding mix_columns
length-mixed s = refl

-- SubBytes, ShiftRows and MixColumns in the other basis
pub mixed-changed : (t o d key k : List ℕ) → IsLanes t → o ≡ map once_changed t → d ≡ map twice_changed t → key ≡ map (added AFFINE) k → AreBytes k
    → (zip2 bit_xor (summed (pick_l 0 (d ++ d) SHIFTED) (pick_l 0 (zip2 bit_xor d o ++ zip2 bit_xor d o) SHIFTED_1) (pick_l 0 (o ++ o) SHIFTED_2) (pick_l 0 (o ++ o) SHIFTED_3)) key
    ≡ map changed (zip2 bit_xor (mix_columns (shift_rows (map once t))) k)) × AreBytes (zip2 bit_xor (mix_columns (shift_rows (map once t))) k)
mixed-changed t o d key k fits eo ed ek hk =
    let ht : AreBytes t = below_from_Fits w8 t fits.1 in
    let a : List ℕ = map once t in
    let b : List ℕ = map (byte_product 2) a in
    let la : length a ≡ 16 = length-map t once ∙ fits.0 in
    let lb : length b ≡ 16 = length-map a (byte_product 2) ∙ la in
    let c : List ℕ = zip2 bit_xor b a in
    let lc : length c ≡ 16 = length-zip2 bit_xor b a (lb ∙ sym la) ∙ lb in
    let ha : AreBytes a = mapped-bytes once once-below t ht in
    let hb : AreBytes b = mapped-bytes (byte_product 2) double-below a ha in
    let hc : AreBytes c = sum-bytes b a hb ha in
    let p0 : List ℕ = pick_l 0 (b ++ b) SHIFTED in
    let p1 : List ℕ = pick_l 0 (c ++ c) SHIFTED_1 in
    let p2 : List ℕ = pick_l 0 (a ++ a) SHIFTED_2 in
    let p3 : List ℕ = pick_l 0 (a ++ a) SHIFTED_3 in
    let h0 : AreBytes p0 = picked-bytes b SHIFTED lb tt hb in
    let h1 : AreBytes p1 = picked-bytes c SHIFTED_1 lc tt hc in
    let h2 : AreBytes p2 = picked-bytes a SHIFTED_2 la tt ha in
    let h3 : AreBytes p3 = picked-bytes a SHIFTED_3 la tt ha in
    let two : AreBytes (zip2 bit_xor p0 p1) = sum-bytes p0 p1 h0 h1 in
    let three : AreBytes (zip2 bit_xor (zip2 bit_xor p0 p1) p2) = sum-bytes (zip2 bit_xor p0 p1) p2 two h2 in
    let four : AreBytes (summed p0 p1 p2 p3) = sum-bytes (zip2 bit_xor (zip2 bit_xor p0 p1) p2) p3 three h3 in
    let whole : summed p0 p1 p2 p3 ≡ mix_columns (shift_rows a) = mixed-lanes a b la refl in
    let oa : o ≡ map (added AFFINE) a = eo ∙ map-bytes once_changed (λ x. added AFFINE (once x)) once_changed-is t ht ∙ sym (map-map (added AFFINE) once t) in
    let db : d ≡ map (added 198) b =
    ed ∙ map-bytes twice_changed (λ x. added 198 (byte_product 2 (once x))) twice_changed-is t ht ∙ sym (map-map (λ x. added 198 (byte_product 2 x)) once t) ∙ sym (map-map (added 198) (byte_product 2) a) in
    let cs : zip2 bit_xor d o ≡ map (added 165) c =
    ap (λ (l : List ℕ). zip2 bit_xor l o) db ∙ ap (zip2 bit_xor (map (added 198) b)) oa ∙ added-sum 198 99 b a (omega arith) (omega arith) hb ha in
    let e0 : pick_l 0 (d ++ d) SHIFTED ≡ map (added 198) p0 = ap (λ (l : List ℕ). pick_l 0 (l ++ l) SHIFTED) db ∙ picked-map (added 198) b SHIFTED lb tt in
    let e1 : pick_l 0 (zip2 bit_xor d o ++ zip2 bit_xor d o) SHIFTED_1 ≡ map (added 165) p1 = ap (λ (l : List ℕ). pick_l 0 (l ++ l) SHIFTED_1) cs ∙ picked-map (added 165) c SHIFTED_1 lc tt in
    let e2 : pick_l 0 (o ++ o) SHIFTED_2 ≡ map (added 99) p2 = ap (λ (l : List ℕ). pick_l 0 (l ++ l) SHIFTED_2) oa ∙ picked-map (added 99) a SHIFTED_2 la tt in
    let e3 : pick_l 0 (o ++ o) SHIFTED_3 ≡ map (added 99) p3 = ap (λ (l : List ℕ). pick_l 0 (l ++ l) SHIFTED_3) oa ∙ picked-map (added 99) a SHIFTED_3 la tt in
    let s1 : zip2 bit_xor (map (added 198) p0) (map (added 165) p1) ≡ map (added 99) (zip2 bit_xor p0 p1) = added-sum 198 165 p0 p1 (omega arith) (omega arith) h0 h1 in
    let s2 : zip2 bit_xor (map (added 99) (zip2 bit_xor p0 p1)) (map (added 99) p2) ≡ map (added 0) (zip2 bit_xor (zip2 bit_xor p0 p1) p2) =
    added-sum 99 99 (zip2 bit_xor p0 p1) p2 (omega arith) (omega arith) two h2 in
    let s3 : zip2 bit_xor (map (added 0) (zip2 bit_xor (zip2 bit_xor p0 p1) p2)) (map (added 99) p3) ≡ map (added 99) (summed p0 p1 p2 p3) =
    added-sum 0 99 (zip2 bit_xor (zip2 bit_xor p0 p1) p2) p3 (omega arith) (omega arith) three h3 in
    let m : List ℕ = mix_columns (shift_rows a) in
    let hm : AreBytes m = subst (λ (l : List ℕ). AreBytes l) whole four in
    let s4 : zip2 bit_xor (map (added 99) m) (map (added 99) k) ≡ map changed (zip2 bit_xor m k) = added-sum 99 99 m k (omega arith) (omega arith) hm hk ∙ added-none (zip2 bit_xor m k) in
    let q1 : List ℕ = pick_l 0 (zip2 bit_xor d o ++ zip2 bit_xor d o) SHIFTED_1 in
    let q2 : List ℕ = pick_l 0 (o ++ o) SHIFTED_2 in
    let q3 : List ℕ = pick_l 0 (o ++ o) SHIFTED_3 in
    let sum : summed (pick_l 0 (d ++ d) SHIFTED) q1 q2 q3 ≡ map (added 99) m =
    ap (λ (l : List ℕ). summed l q1 q2 q3) e0 ∙ ap (λ (l : List ℕ). summed (map (added 198) p0) l q2 q3) e1
    ∙ ap (λ (l : List ℕ). zip2 bit_xor (zip2 bit_xor l q2) q3) s1 ∙ ap (λ (l : List ℕ). zip2 bit_xor (zip2 bit_xor (map (added 99) (zip2 bit_xor p0 p1)) l) q3) e2
    ∙ ap (λ (l : List ℕ). zip2 bit_xor l q3) s2 ∙ ap (zip2 bit_xor (map (added 0) (zip2 bit_xor (zip2 bit_xor p0 p1) p2))) e3 ∙ s3 ∙ ap (map (added 99)) whole in
    (ap (λ (l : List ℕ). zip2 bit_xor l key) sum ∙ ap (zip2 bit_xor (map (added 99) m)) ek ∙ s4, sum-bytes m k hm hk)

-- a whole round in the other basis
pub next-changed : (t o d key out w s : List ℕ) (n : ℕ) → IsLanes t → o ≡ map once_changed t → d ≡ map twice_changed t
    → out ≡ zip2 bit_xor (summed (pick_l 0 (d ++ d) SHIFTED) (pick_l 0 (zip2 bit_xor d o ++ zip2 bit_xor d o) SHIFTED_1) (pick_l 0 (o ++ o) SHIFTED_2) (pick_l 0 (o ++ o) SHIFTED_3)) key
    → IsChanged s t → IsKey w n key → 16 * (n + 1) ≤ length w → IsChanged (add_round_key w n (mix_columns (shift_rows (sub_bytes s)))) out
next-changed t o d key out w s n fits eo ed e is has long =
    let k : List ℕ = chunk (16 * n) 16 w in
    let both = mixed-changed t o d key k fits eo ed has.0 has.1 in
    let same : zip2 bit_xor (mix_columns (shift_rows (map once t))) k ≡ add_round_key w n (mix_columns (shift_rows (sub_bytes s))) =
    ap (λ (l : List ℕ). zip2 bit_xor (mix_columns (shift_rows l)) k) (sub_bytes-changed s t fits.0 is) ∙ add_round_key-lanes (mix_columns (shift_rows (sub_bytes s))) w n (length-mixed (shift_rows (sub_bytes s))) long in
    (e ∙ both.0 ∙ ap (map changed) same, subst (λ (l : List ℕ). AreBytes l) same both.1)

-- SubWord, of the first four lanes
pub sub_word-lanes : (s r : List ℕ) → IsLanes s → r ≡ map (λ x. once (changed x)) s → get_or r 0 0 ∷ get_or r 1 0 ∷ get_or r 2 0 ∷ get_or r 3 0 ∷ [] ≡ sub_word (take 4 s)
sub_word-lanes [] r fits e = absurd (omega (arith, fits.0))
sub_word-lanes (a ∷ []) r fits e = absurd (omega (arith, fits.0))
sub_word-lanes (a ∷ b ∷ []) r fits e = absurd (omega (arith, fits.0))
sub_word-lanes (a ∷ b ∷ c ∷ []) r fits e = absurd (omega (arith, fits.0))
sub_word-lanes (a ∷ b ∷ c ∷ d ∷ s) r fits e =
    let h = fits.1 in
    rw e (rw (once-is a h.0.fits, once-is b h.1.0.fits, once-is c h.1.1.0.fits, once-is d h.1.1.1.0.fits) refl)

-- one more round in the other basis
pub round-next : (w block out : List ℕ) (round : ℕ) → 1 ≤ round → IsChanged (add_round_key w round (mix_columns (shift_rows (sub_bytes (state_after w block (round - 1)))))) out
    → IsChanged (state_after w block (round + 1 - 1)) out
round-next w block out round h is =
    rw (state_after-next w block (state_after w block (round - 1)) (add_round_key w round (mix_columns (shift_rows (sub_bytes (state_after w block (round - 1)))))) round h refl refl) at is

-- the last round
pub cipher-last : (w block last out : List ℕ) (round : ℕ) → round ≡ length w / 16 - 1 → last ≡ shift_rows (sub_bytes (state_after w block (round - 1)))
    → out ≡ add_round_key w (length w / 16 - 1) last → out ≡ cipher w block
unfolding cipher
cipher-last w block last out round er el eo =
    let before : round - 1 ≡ round_count w - 1 = omega arith in
    eo ∙ ap (add_round_key w (round_count w)) (el ∙ ap (λ (k : ℕ). shift_rows (sub_bytes (state_after w block k))) before)
