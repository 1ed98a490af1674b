-- The front of a list whose rest was written.
use Rattle.std.proofs.Common.{◌≡◌, ℕ, ◌+◌, ◌-◌, ◌≤◌, List, ◌++◌, length, take, drop, ap, ◌∙◌, sym, arith, length-append, length-drop}
use Rattle.std.proofs.lemmas.List.{length-take-le, take-append-le}
use Rattle.std.proofs.Math.Seq.{take-append-add}
use borrow.Rule.Slice.PartMut.{put_mid, post_of}

pub take-put_rest : (f r : ℕ) (out rest : List ℕ) → f ≤ length out → r ≤ length rest
    → take (f + r) (put_mid f (length out - f) out rest) ≡ take f out ++ take r rest
take-put_rest f r out rest within fits =
    let front : length (take f out) ≡ f = length-take-le f out within in
    ap (λ (n : ℕ). take (n + r) (put_mid f (length out - f) out rest)) (sym front)
    ∙ take-append-add (take f out) (rest ++ post_of f (length out - f) out) r
    ∙ ap (λ (x : List ℕ). take f out ++ x) (take-append-le r rest (post_of f (length out - f) out) fits)

-- a part that is written with as many elements
pub length-put_part : (a k : ℕ) (xs ys : List ℕ) → a + k ≤ length xs → length ys ≡ k → length (put_mid a k xs ys) ≡ length xs
length-put_part a k xs ys within same =
    let front : length (take a xs) ≡ a = length-take-le a xs (omega (arith, within)) in
    length-append (take a xs) (ys ++ post_of a k xs)
    ∙ omega (arith, front, same, within, length-append ys (post_of a k xs), length-drop k (drop a xs), length-drop a xs)
