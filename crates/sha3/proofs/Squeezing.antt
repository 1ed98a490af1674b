-- An output that is given piece by piece.
use Rattle.std.proofs.Common.{◌≡◌, ℕ, zero, suc, ◌+◌, ◌*◌, ◌<◌, ◌≤◌, List, [], ◌∷◌, ◌++◌, length, take, drop, get_or, refl, sym, ap, ap₂, ◌∙◌, arith, length-append}
use Rattle.std.specs.Int.{w64, to_le_bytes, div_ceil}
use Rattle.std.proofs.lemmas.Grind.{div_ceil_times}
use Rattle.std.proofs.lemmas.List.{append_assoc, append-nil, take-append-le, length-take-le}
use Rattle.std.proofs.Math.Seq.{take-add, drop-append-add}
use Rattle.sha3.specs.Keccak.{chi, keccak_f, rounds}
use Rattle.sha3.specs.Pieces.{Left, Squeezes, permuted}
use Rattle.sha3.specs.Sponge.{output, squeezed, state_bytes}

-- the bytes of lane k
pub state_bytes-at : (a : List ℕ) (k : ℕ) → k < length a → take 8 (drop (8 * k) (state_bytes a)) ≡ to_le_bytes w64 (get_or a k 0)
unfolding state_bytes
state_bytes-at [] k within = absurd (omega (arith, within))
state_bytes-at (x ∷ xs) zero within = refl
state_bytes-at (x ∷ xs) (suc k) within =
    let more : 8 * suc k ≡ 8 + 8 * k = omega arith in
    ap (λ (n : ℕ). take 8 (drop n (to_le_bytes w64 x ++ state_bytes xs))) more
    ∙ ap (take 8) (drop-append-add (to_le_bytes w64 x) (state_bytes xs) (8 * k))
    ∙ state_bytes-at xs k (omega (arith, within))

pub length-state_bytes : (a : List ℕ) → length (state_bytes a) ≡ 8 * length a
unfolding state_bytes
length-state_bytes [] = refl
length-state_bytes (x ∷ xs) = length-append (to_le_bytes w64 x) (state_bytes xs) ∙ ap (λ (n : ℕ). 8 + n) (length-state_bytes xs) ∙ omega arith

-- one lane more
pub take-state_bytes : (a : List ℕ) (k : ℕ) → k < length a → take (8 * (k + 1)) (state_bytes a) ≡ take (8 * k) (state_bytes a) ++ to_le_bytes w64 (get_or a k 0)
take-state_bytes a k within =
    let more : 8 * (k + 1) ≡ 8 * k + 8 = omega arith in
    ap (λ (n : ℕ). take n (state_bytes a)) more ∙ take-add (8 * k) 8 (state_bytes a)
    ∙ ap (λ (bytes : List ℕ). take (8 * k) (state_bytes a) ++ bytes) (state_bytes-at a k within)

pub length-keccak_f : (a : List ℕ) → length (keccak_f a) ≡ 25
unfolding keccak_f rounds chi
length-keccak_f a = refl

length-permuted : (a : List ℕ) (n : ℕ) → length a ≡ 25 → length (permuted a n) ≡ 25
unfolding permuted
length-permuted a zero is = is
length-permuted a (suc n) is = length-keccak_f (permuted a n)

permuted-shift : (a : List ℕ) (n : ℕ) → permuted (keccak_f a) n ≡ keccak_f (permuted a n)
unfolding permuted
permuted-shift a zero = refl
permuted-shift a (suc n) = ap keccak_f (permuted-shift a n)

-- one block more
squeezed-next : (rate : ℕ) (a : List ℕ) (n : ℕ) → squeezed rate a (suc n) ≡ squeezed rate a n ++ take rate (state_bytes (permuted a n))
unfolding squeezed permuted
squeezed-next rate a zero = append-nil (take rate (state_bytes a))
squeezed-next rate a (suc n) =
    ap (λ (rest : List ℕ). take rate (state_bytes a) ++ rest) (squeezed-next rate (keccak_f a) n)
    ∙ sym (append_assoc (take rate (state_bytes a)) (squeezed rate (keccak_f a) n) (take rate (state_bytes (permuted (keccak_f a) n))))
    ∙ ap (λ (s : List ℕ). (take rate (state_bytes a) ++ squeezed rate (keccak_f a) n) ++ take rate (state_bytes s)) (permuted-shift a n)

length-block : (rate : ℕ) (a : List ℕ) → rate ≤ 200 → length a ≡ 25 → length (take rate (state_bytes a)) ≡ rate
length-block rate a most is = length-take-le rate (state_bytes a) (omega (arith, length-state_bytes a, is))

pub length-squeezed : (rate : ℕ) (a : List ℕ) (n : ℕ) → rate ≤ 200 → length a ≡ 25 → length (squeezed rate a n) ≡ n * rate
unfolding squeezed
length-squeezed rate a zero most is = omega arith
length-squeezed rate a (suc n) most is =
    length-append (take rate (state_bytes a)) (squeezed rate (keccak_f a) n)
    ∙ ap₂ (λ (i j : ℕ). i + j) (length-block rate a most is) (length-squeezed rate (keccak_f a) n most (length-keccak_f a))
    ∙ grind arith

-- more blocks don't change the front
take-squeezed : (rate : ℕ) (a : List ℕ) (n j d : ℕ) → rate ≤ 200 → length a ≡ 25 → d ≤ n * rate → take d (squeezed rate a (j + n)) ≡ take d (squeezed rate a n)
take-squeezed rate a n zero d most is within = ap (λ (k : ℕ). take d (squeezed rate a k)) (omega arith)
take-squeezed rate a n (suc j) d most is within =
    let same : suc j + n ≡ suc (j + n) = omega arith in
    let more : d ≤ (j + n) * rate = grind (arith, within) in
    ap (λ (k : ℕ). take d (squeezed rate a k)) same
    ∙ ap (take d) (squeezed-next rate a (j + n))
    ∙ take-append-le d (squeezed rate a (j + n)) (take rate (state_bytes (permuted a (j + n)))) (omega (arith, length-squeezed rate a (j + n) most is, more))
    ∙ take-squeezed rate a n j d most is within

-- the output is the front of as many blocks as it needs, or more
pub output-at : (rate : ℕ) (a : List ℕ) (n d : ℕ) → 0 < rate → rate ≤ 200 → length a ≡ 25 → d ≤ n * rate → output rate a d ≡ take d (squeezed rate a n)
unfolding output
output-at rate a n d positive most is within =
    let q : ℕ = div_ceil d rate in
    let enough : d ≤ q * rate = (div_ceil_times d rate positive).0 in
    let both : n + q ≡ q + n = omega arith in
    sym (take-squeezed rate a q n d most is enough) ∙ ap (λ (k : ℕ). take d (squeezed rate a k)) both ∙ take-squeezed rate a n q d most is within

-- the next bytes of the block are those of the output
pub output-more : (rate : ℕ) (from : List ℕ) (left : Left) (given count : ℕ) → Squeezes rate from left given → 0 < rate → rate ≤ 200 → left.gone + count ≤ rate
    → output rate from (given + count) ≡ output rate from given ++ take count (drop left.gone left.block)
unfolding Squeezes
output-more rate from left given count is positive most fits =
    let n : ℕ = is.0 in
    let more : suc n * rate ≡ n * rate + rate = grind arith in
    let blocks : List ℕ = squeezed rate from (suc n) in
    let first : List ℕ = squeezed rate from n in
    let size : length first ≡ n * rate = length-squeezed rate from n most is.1 in
    let last : blocks ≡ first ++ left.block = squeezed-next rate from n ∙ ap (λ (s : List ℕ). first ++ take rate (state_bytes s)) (sym is.4) ∙ ap (λ (b : List ℕ). first ++ b) (sym is.5) in
    let place : given ≡ length first + left.gone = omega (arith, is.2, size) in
    let behind : drop given blocks ≡ drop left.gone left.block =
    ap (drop given) last ∙ ap (λ (k : ℕ). drop k (first ++ left.block)) place ∙ drop-append-add first left.block left.gone in
    output-at rate from (suc n) (given + count) positive most is.1 (omega (arith, is.2, more, fits))
    ∙ take-add given count blocks
    ∙ ap₂ (λ (x y : List ℕ). x ++ y) (sym (output-at rate from (suc n) given positive most is.1 (omega (arith, is.2, more, is.3)))) (ap (take count) behind)

-- nothing was given
pub Squeezes-none : (rate : ℕ) (left : Left) (from : List ℕ) → length from ≡ 25 → left.gone ≡ 0 → left.state ≡ from → left.block ≡ take rate (state_bytes left.state)
    → Squeezes rate from left 0
unfolding Squeezes permuted
Squeezes-none rate left from size gone state block = (0, size, omega (arith, gone), omega (arith, gone), state, block)

-- the block was given, and the next one is there
pub Squeezes-fresh : (rate : ℕ) (old new : Left) (from : List ℕ) (given : ℕ) → Squeezes rate from old given → old.gone ≡ rate
    → new.state ≡ keccak_f old.state → new.block ≡ take rate (state_bytes new.state) → new.gone ≡ 0 → Squeezes rate from new given
unfolding Squeezes permuted
Squeezes-fresh rate old new from given is all state block gone =
    let more : suc is.0 * rate ≡ is.0 * rate + rate = grind arith in
    (suc is.0, is.1, omega (arith, is.2, all, gone, more), omega (arith, gone), state ∙ ap keccak_f is.4, block)

-- more of the block was given
pub Squeezes-more : (rate : ℕ) (old new : Left) (from : List ℕ) (given count : ℕ) → Squeezes rate from old given → old.gone + count ≤ rate
    → new.state ≡ old.state → new.block ≡ old.block → new.gone ≡ old.gone + count → Squeezes rate from new (given + count)
unfolding Squeezes
Squeezes-more rate old new from given count is fits state block gone = (
  is.0,
  is.1,
  omega (arith, is.2, gone),
  omega (arith, fits, gone),
  state ∙ is.4,
  block ∙ is.5 ∙ ap (λ (s : List ℕ). take rate (state_bytes s)) (sym state),
)
