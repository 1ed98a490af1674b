-- Numbers of one width, as numbers of another width with the same bits.
use Rattle.std.proofs.Common.{◌≡◌, ℕ, ◌+◌, ◌-◌, ◌*◌, ◌/◌, ◌%◌, ◌^◌, ◌<◌, ◌≤◌, List, [], ◌++◌, length, take, drop, get_or, All, sym, ap, ◌∙◌, arith, length-append, length-take-le, length-drop, mul-zero, take_all, take-add}
use Rattle.std.proofs.Math.Nat.{div-eq_of_eq-mul_right, zero-div}
use Rattle.std.proofs.lemmas.Slice.{take-put_mid}
use borrow.Rule.Slice.PartMut.{put_mid}
use Rattle.module_lattice.specs.Bits.{bits_of_each, number_of, numbers_in, numbers_of}
use Rattle.module_lattice.proofs.BitLists.{All-bits_of_each, All-numbers_in, bits_of_each-append, bits_of_each-numbers_in, length-bits_of_each, length-numbers_in, numbers_in-append, numbers_in-at, numbers_in-bits_of_each}

-- the numbers of w bits with the bits of these of d bits: `groups d` is `regroup d 8`, and `ungroup d` is `regroup 8 d`
abbrev pub regroup : ℕ → ℕ → List ℕ → List ℕ
regroup d w xs = numbers_of w (bits_of_each d xs)

regroup-whole : (d w n : ℕ) (xs : List ℕ) → 1 ≤ w → d * length xs ≡ w * n → regroup d w xs ≡ numbers_in w n (bits_of_each d xs)
unfolding numbers_of
regroup-whole d w n xs positive whole =
    let count : length (bits_of_each d xs) / w ≡ n = div-eq_of_eq-mul_right positive (length-bits_of_each d xs ∙ whole) in
    ap (λ (k : ℕ). numbers_in w k (bits_of_each d xs)) count

pub length-regroup : (d w n : ℕ) (xs : List ℕ) → 1 ≤ w → d * length xs ≡ w * n → length (regroup d w xs) ≡ n
length-regroup d w n xs positive whole = ap length (regroup-whole d w n xs positive whole) ∙ length-numbers_in w n (bits_of_each d xs)

pub All-regroup : (d w : ℕ) (xs : List ℕ) → All (λ x. x < 2 ^ w) (regroup d w xs)
unfolding numbers_of
All-regroup d w xs = All-numbers_in w (length (bits_of_each d xs) / w) (bits_of_each d xs) (All-bits_of_each d xs)

-- number i, as a part of the number that all the bits make
pub get_or-regroup : (d w n : ℕ) (xs : List ℕ) (i : ℕ) → 1 ≤ w → d * length xs ≡ w * n → i < n
    → get_or (regroup d w xs) i 0 ≡ number_of (bits_of_each d xs) / 2 ^ (w * i) % 2 ^ w
get_or-regroup d w n xs i positive whole lt =
    ap (λ (ys : List ℕ). get_or ys i 0) (regroup-whole d w n xs positive whole)
    ∙ numbers_in-at w n (bits_of_each d xs) i (All-bits_of_each d xs) (length-bits_of_each d xs ∙ whole) lt

-- there and back
pub regroup-regroup : (d w n : ℕ) (xs : List ℕ) → 1 ≤ d → 1 ≤ w → d * length xs ≡ w * n → All (λ x. x < 2 ^ d) xs → regroup w d (regroup d w xs) ≡ xs
regroup-regroup d w n xs positive positive_w whole each =
    let bits : List ℕ = bits_of_each d xs in
    let back : w * length (regroup d w xs) ≡ d * length xs = ap (λ (k : ℕ). w * k) (length-regroup d w n xs positive_w whole) ∙ sym whole in
    regroup-whole w d (length xs) (regroup d w xs) positive back
    ∙ ap (λ (ys : List ℕ). numbers_in d (length xs) (bits_of_each w ys)) (regroup-whole d w n xs positive_w whole)
    ∙ ap (numbers_in d (length xs)) (bits_of_each-numbers_in w n bits (All-bits_of_each d xs) (length-bits_of_each d xs ∙ whole))
    ∙ numbers_in-bits_of_each d xs each

-- ---- unit by unit: v numbers of d bits are b numbers of w bits

regroup-append : (d w m n : ℕ) (xs ys : List ℕ) → 1 ≤ w → d * length xs ≡ w * m → d * length ys ≡ w * n → regroup d w (xs ++ ys) ≡ regroup d w xs ++ regroup d w ys
regroup-append d w m n xs ys positive ex ey =
    let all : d * length (xs ++ ys) ≡ w * (m + n) = ap (λ (k : ℕ). d * k) (length-append xs ys) ∙ omega arith in
    let first : List ℕ = bits_of_each d xs in
    let rest : List ℕ = bits_of_each d ys in
    regroup-whole d w (m + n) (xs ++ ys) positive all
    ∙ ap (numbers_in w (m + n)) (bits_of_each-append d xs ys)
    ∙ numbers_in-append w m n first rest (length-bits_of_each d xs ∙ ex)
    ∙ ap (λ (b : List ℕ). b ++ numbers_in w n rest) (sym (regroup-whole d w m xs positive ex))
    ∙ ap (λ (b : List ℕ). regroup d w xs ++ b) (sym (regroup-whole d w n ys positive ey))

regroup-nil : (d w : ℕ) → regroup d w [] ≡ []
unfolding numbers_of numbers_in bits_of_each
regroup-nil d w = ap (λ (k : ℕ). numbers_in w k []) (zero-div w)

-- no unit yet
pub regroup_none : (d w v b : ℕ) (xs out : List ℕ) → take (b * 0) out ≡ regroup d w (take (v * 0) xs)
regroup_none d w v b xs out =
    ap (λ (k : ℕ). take k out) (mul-zero b) ∙ sym (ap (λ (k : ℕ). regroup d w (take k xs)) (mul-zero v) ∙ regroup-nil d w)

-- one unit more, which stands in `out` as ys; j and k are v and b as a slice's bounds give them
pub regroup_more : (d w v b u j k : ℕ) (xs out ys : List ℕ) → 1 ≤ w → d * v ≡ w * b → v * u + v ≤ length xs → b * u + b ≤ length out
    → j ≡ v * u + v - v * u → k ≡ b * u + b - b * u → ys ≡ regroup d w (take j (drop (v * u) xs)) → take (b * u) out ≡ regroup d w (take (v * u) xs)
    → take (b * (u + 1)) (put_mid (b * u) k out ys) ≡ regroup d w (take (v * (u + 1)) xs)
regroup_more d w v b u j k xs out ys positive whole fits room ej ek is before =
    let first : List ℕ = take (v * u) xs in
    let next : List ℕ = take v (drop (v * u) xs) in
    let len_first : length first ≡ v * u = length-take-le (v * u) xs (omega arith) in
    let len_next : length next ≡ v = length-take-le v (drop (v * u) xs) (omega (arith, length-drop (v * u) xs)) in
    let whole_first : d * length first ≡ w * (b * u) = ap (λ (n : ℕ). d * n) len_first ∙ omega (arith, ap (λ (n : ℕ). n * u) whole) in
    let whole_next : d * length next ≡ w * b = ap (λ (n : ℕ). d * n) len_next ∙ whole in
    let count : j ≡ v = omega arith in
    let unit : ys ≡ regroup d w next = is ∙ ap (λ (n : ℕ). regroup d w (take n (drop (v * u) xs))) count in
    let len : length ys ≡ b = ap length unit ∙ length-regroup d w b next positive whole_next in
    let more : v * (u + 1) ≡ v * u + v = omega arith in
    take-put_mid (b * u) k out ys (b * (u + 1)) (omega arith) (omega arith)
    ∙ ap (λ (x : List ℕ). x ++ ys) before
    ∙ ap (λ (x : List ℕ). regroup d w first ++ x) unit
    ∙ sym (regroup-append d w (b * u) b first next positive whole_first whole_next)
    ∙ sym (ap (regroup d w) (ap (λ (n : ℕ). take n xs) more ∙ take-add (v * u) v xs))

-- all units
pub regroup_all : (d w m n : ℕ) (xs out : List ℕ) → take m out ≡ regroup d w (take n xs) → length out ≡ m → length xs ≡ n → out ≡ regroup d w xs
regroup_all d w m n xs out done lo lx =
    sym (take_all m out (omega arith)) ∙ done ∙ ap (regroup d w) (take_all n xs (omega arith))
