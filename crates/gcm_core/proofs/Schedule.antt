-- The rounds and the key schedule, step by step.
use Rattle.std.proofs.Common.{◌≡◌, ℕ, suc, ◌+◌, ◌-◌, ◌*◌, ◌/◌, ◌%◌, ◌<◌, ◌≤◌, List, [], ◌∷◌, ◌++◌, length, take, map, slice_index, refl, sym, ap, ◌∙◌, arith}
use Rattle.std.specs.List.{range_with_len}
use Rattle.std.proofs.lemmas.List.{get_or-take}
use Rattle.std.proofs.lemmas.List.FromFn.{get_or-map-range_with_len}
use Rattle.std.proofs.lemmas.Slice.{take-put_mid}
use borrow.Rule.Slice.PartMut.{put_mid}
use Rattle.gcm_core.specs.declared.aes.TheConstants.{POWERS_OF_X}
use Rattle.gcm_core.specs.FieldMul.{times_x}
use Rattle.gcm_core.specs.Aes.{add_round_key, mix_columns, power_of_x, rcon, rot_word, schedule, schedule_term, shift_rows, state_after, sub_bytes, sub_word, word_at, xor_bytes}

-- one more round
pub state_after-next : (w block state next : List ℕ) (round : ℕ) → 1 ≤ round → state ≡ state_after w block (round - 1)
    → next ≡ add_round_key w round (mix_columns (shift_rows (sub_bytes state))) → next ≡ state_after w block (round + 1 - 1)
unfolding state_after
state_after-next w block state next round h held e =
    let at : round + 1 - 1 ≡ suc (round - 1) = omega arith in
    let same : suc (round - 1) ≡ round = omega arith in
    rw at (rw (same, ← held) e)

-- the table holds the powers of x
POWERS_OF_X_is : map power_of_x (range_with_len 0 10) ≡ POWERS_OF_X
unfolding power_of_x times_x
POWERS_OF_X_is = refl

pub slice_index-POWERS_OF_X : (n : ℕ) → n < 10 → slice_index POWERS_OF_X n ≡ power_of_x n
slice_index-POWERS_OF_X n h =
    ap (λ (t : List ℕ). slice_index t n) (sym POWERS_OF_X_is) ∙ get_or-map-range_with_len power_of_x 0 10 n n 0 h (omega arith)

-- a turned word, place by place
rot_word-at : (p : List ℕ) → length p ≡ 4 → slice_index p 1 ∷ slice_index p 2 ∷ slice_index p 3 ∷ slice_index p 0 ∷ [] ≡ rot_word p
rot_word-at (a ∷ b ∷ c ∷ d ∷ []) len = refl
rot_word-at [] len = absurd (omega arith)
rot_word-at (a ∷ []) len = absurd (omega arith)
rot_word-at (a ∷ b ∷ []) len = absurd (omega arith)
rot_word-at (a ∷ b ∷ c ∷ []) len = absurd (omega arith)
rot_word-at (a ∷ b ∷ c ∷ d ∷ e ∷ more) len = absurd (omega arith)

-- the term at a multiple of Nk
pub schedule_term-rotated : (nk i x : ℕ) (p word term : List ℕ) → i % nk ≡ 0 → length p ≡ 4
    → word ≡ sub_word (slice_index p 1 ∷ slice_index p 2 ∷ slice_index p 3 ∷ slice_index p 0 ∷ []) → x ≡ power_of_x (i / nk - 1)
    → term ≡ xor_bytes word (x ∷ 0 ∷ 0 ∷ 0 ∷ []) → term ≡ schedule_term nk i p
schedule_term-rotated nk i x p word term h len ew ex et =
    let turned : word ≡ sub_word (rot_word p) = ew ∙ ap sub_word (rot_word-at p len) in
    let whole : term ≡ xor_bytes (sub_word (rot_word p)) (rcon (i / nk)) =
    et ∙ ap (λ (q : List ℕ). xor_bytes q (x ∷ 0 ∷ 0 ∷ 0 ∷ [])) turned ∙ ap (λ (y : ℕ). xor_bytes (sub_word (rot_word p)) (y ∷ 0 ∷ 0 ∷ 0 ∷ [])) ex in
    rw h whole

-- a word of a front is the whole's
word_at-take : (w : List ℕ) (n i : ℕ) → 4 * i + 4 ≤ n → word_at (take n w) i ≡ word_at w i
word_at-take w n i h =
    rw (get_or-take n w (4 * i) 0 (omega arith), get_or-take n w (4 * i + 1) 0 (omega arith), get_or-take n w (4 * i + 2) 0 (omega arith), get_or-take n w (4 * i + 3) 0 (omega arith)) refl

-- one more word, written behind those that stand
pub schedule-next : (nk i n m j : ℕ) (key w term ys : List ℕ) → take (4 * i) w ≡ schedule nk key n → i ≡ nk + n → 1 ≤ nk → 4 * i ≤ length w
    → length ys ≡ 4 → term ≡ schedule_term nk i (word_at w (i - 1)) → ys ≡ xor_bytes (word_at w n) term → m ≡ suc n
    → take (4 * (i + 1)) (put_mid (4 * i) j w ys) ≡ schedule nk key m
unfolding schedule
schedule-next nk i n m j key w term ys held at pos fits len et ey em =
    let s : List ℕ = schedule nk key n in
    let front : take (4 * (i + 1)) (put_mid (4 * i) j w ys) ≡ take (4 * i) w ++ ys = take-put_mid (4 * i) j w ys (4 * (i + 1)) (omega arith) fits in
    let word : word_at w n ≡ word_at s n = sym (word_at-take w (4 * i) n (omega arith)) ∙ ap (λ (v : List ℕ). word_at v n) held in
    let last : word_at w (i - 1) ≡ word_at s (i - 1) =
    sym (word_at-take w (4 * i) (i - 1) (omega arith)) ∙ ap (λ (v : List ℕ). word_at v (i - 1)) held in
    let added : term ≡ schedule_term nk (nk + n) (word_at s (nk + n - 1)) =
    et ∙ ap (schedule_term nk i) last ∙ ap (λ (k : ℕ). schedule_term nk k (word_at s (k - 1))) at in
    let next : ys ≡ xor_bytes (word_at s n) (schedule_term nk (nk + n) (word_at s (nk + n - 1))) =
    ey ∙ ap (λ (v : List ℕ). xor_bytes v term) word ∙ ap (xor_bytes (word_at s n)) added in
    front ∙ ap (λ (v : List ℕ). v ++ ys) held ∙ ap (λ (v : List ℕ). s ++ v) next ∙ ap (schedule nk key) (sym em)
