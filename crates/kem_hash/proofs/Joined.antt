-- Digests of one size, joined by their numbers.
use Rattle.std.proofs.Common.{◌≡◌, ℕ, zero, suc, ◌+◌, ◌*◌, ◌≤◌, List, ◌∷◌, ◌++◌, length, take, drop, sym, ap, ap₂, ◌∙◌, arith, append-nil, length-append, take_all}
use Rattle.std.specs.List.{flat_map, range_with_len}
use Rattle.std.proofs.Math.Seq.{drop-append_seam, take-append_seam}
use Rattle.std.proofs.lemmas.Grind.{flat_map-append}
use Rattle.std.proofs.lemmas.Slice.{take-put_mid}
use borrow.Rule.Slice.PartMut.{put_mid}

-- a range in two parts
pub range_with_len-add : (a m n : ℕ) → range_with_len a (m + n) ≡ range_with_len a m ++ range_with_len (a + m) n
range_with_len-add a zero n = ap₂ range_with_len (omega arith) (omega arith)
range_with_len-add a (suc m) n =
    let count : suc m + n ≡ suc (m + n) = omega arith in
    ap (range_with_len a) count
    ∙ ap (λ t. a ∷ t) (range_with_len-add (a + 1) m n ∙ ap (λ (b : ℕ). range_with_len (a + 1) m ++ range_with_len b n) (omega arith))

joined-add : (digest : ℕ → List ℕ) (a m n : ℕ)
    → flat_map digest (range_with_len a (m + n)) ≡ flat_map digest (range_with_len a m) ++ flat_map digest (range_with_len (a + m) n)
joined-add digest a m n =
    ap (flat_map digest) (range_with_len-add a m n) ∙ flat_map-append digest (range_with_len a m) (range_with_len (a + m) n)

-- how long n digests are
length-joined : (digest : ℕ → List ℕ) (size : ℕ) → ((c : ℕ) → length (digest c) ≡ size)
    → (a n : ℕ) → length (flat_map digest (range_with_len a n)) ≡ size * n
length-joined digest size each a zero = omega arith
length-joined digest size each a (suc n) =
    length-append (digest a) (flat_map digest (range_with_len (a + 1) n))
    ∙ ap₂ (λ (i j : ℕ). i + j) (each a) (length-joined digest size each (a + 1) n) ∙ omega arith

-- digest a + n is written behind the first n, which begin with digest a
pub digest_written : (digest : ℕ → List ℕ) (size a n c k : ℕ) (out ys : List ℕ) → size * n + size ≤ length out
    → c ≡ a + n → ys ≡ digest c → length ys ≡ size → take (size * n) out ≡ flat_map digest (range_with_len a n)
    → take (size * (n + 1)) (put_mid (size * n) k out ys) ≡ flat_map digest (range_with_len a (n + 1))
digest_written digest size a n c k out ys room at is long before =
    take-put_mid (size * n) k out ys (size * (n + 1)) (omega arith) (omega arith)
    ∙ ap₂ (λ (x y : List ℕ). x ++ y) before (is ∙ ap digest at ∙ sym (append-nil (digest (a + n))))
    ∙ sym (joined-add digest a n 1)

-- all are written
pub digests_written : (digest : ℕ → List ℕ) (size a n m : ℕ) (out : List ℕ) → length out ≡ size * m → n ≡ m
    → take (size * n) out ≡ flat_map digest (range_with_len a n) → out ≡ flat_map digest (range_with_len a m)
digests_written digest size a n m out long all made =
    sym (take_all (size * n) out (omega (arith, ap (λ (k : ℕ). size * k) all))) ∙ made ∙ ap (λ (k : ℕ). flat_map digest (range_with_len a k)) all

-- the n digests that begin with digest m, of all that there are
pub part-joined : (digest : ℕ → List ℕ) (size : ℕ) → ((c : ℕ) → length (digest c) ≡ size) → (m n rest start len : ℕ)
    → start ≡ size * m → len ≡ size * n
    → take len (drop start (flat_map digest (range_with_len 0 (m + (n + rest))))) ≡ flat_map digest (range_with_len m n)
part-joined digest size each m n rest start len from count =
    let first : List ℕ = flat_map digest (range_with_len 0 m) in
    let part : List ℕ = flat_map digest (range_with_len m n) in
    let last : List ℕ = flat_map digest (range_with_len (m + n) rest) in
    let skipped : start ≡ length first = from ∙ sym (length-joined digest size each 0 m) in
    let taken : len ≡ length part = count ∙ sym (length-joined digest size each m n) in
    let zero_more : 0 + m ≡ m = omega arith in
    ap (λ (x : List ℕ). take len (drop start x)) (joined-add digest 0 m (n + rest)
    ∙ ap (λ (b : ℕ). first ++ flat_map digest (range_with_len b (n + rest))) zero_more)
    ∙ ap (λ (k : ℕ). take len (drop k (first ++ flat_map digest (range_with_len m (n + rest))))) skipped
    ∙ ap (take len) (drop-append_seam first (flat_map digest (range_with_len m (n + rest))) ∙ joined-add digest m n rest)
    ∙ ap (λ (k : ℕ). take k (part ++ last)) taken
    ∙ take-append_seam part last
