-- A message that is taken in piece by piece.
use Rattle.std.proofs.Common.{◌≡◌, ℕ, zero, suc, ◌+◌, ◌*◌, ◌<◌, ◌≤◌, List, [], ◌++◌, length, take, drop, refl, sym, ap, ◌∙◌, arith, length-append, length-drop}
use Rattle.std.proofs.lemmas.List.{take-append-le, drop-append-le, take_all, drop_all, append_assoc}
use Rattle.std.proofs.Math.Seq.{take-add}
use Rattle.sha3.specs.Keccak.{keccak_f}
use Rattle.sha3.specs.Pieces.{Absorbs, Held}
use Rattle.sha3.specs.Sponge.{absorbed, added}

-- only the blocks that are counted are read
pub absorbed-append : (rate : ℕ) (p x : List ℕ) (n : ℕ) → n * rate ≤ length p → absorbed rate (p ++ x) n ≡ absorbed rate p n
unfolding absorbed
absorbed-append rate p x zero within = refl
absorbed-append rate p x (suc n) within =
    let more : suc n * rate ≡ rate + n * rate = grind arith in
    let fits : rate ≤ length (drop (n * rate) p) = omega (arith, length-drop (n * rate) p) in
    let block : take rate (drop (n * rate) (p ++ x)) ≡ take rate (drop (n * rate) p) =
    rw (drop-append-le (n * rate) p x (omega arith)) (take-append-le rate (drop (n * rate) p) x fits) in
    rw (block, absorbed-append rate p x n (omega arith)) refl

-- nothing is taken in
pub Absorbs-none : (rate : ℕ) (held : Held) → 0 < rate → held.len ≡ 0 → held.state ≡ absorbed rate [] 0 → Absorbs rate held []
unfolding Absorbs
Absorbs-none rate held positive len is =
    (0, omega (arith, len), omega (arith, len), is, ap (λ (n : ℕ). take n held.buffer) len ∙ sym (drop_all (0 * rate) [] (omega arith)))

-- a piece that leaves the buffer short of a block
pub Absorbs-short : (rate : ℕ) (old new : Held) (m x : List ℕ) → Absorbs rate old m → old.len + length x < rate
    → new.state ≡ old.state → new.len ≡ old.len + length x
    → take (old.len + length x) new.buffer ≡ take old.len old.buffer ++ x → Absorbs rate new (m ++ x)
unfolding Absorbs
Absorbs-short rate old new m x is short state len placed = (
  is.0,
  (let whole = length-append m x in omega (arith, is.1, whole, len)),
  omega (arith, len),
  state ∙ (let e = absorbed-append rate m x is.0 (omega (arith, is.1)) in is.3 ∙ sym e),
  ap (λ (n : ℕ). take n new.buffer) len
      ∙ (let e = drop-append-le (is.0 * rate) m x (omega (arith, is.1)) in placed ∙ ap (λ (front : List ℕ). front ++ x) is.4 ∙ sym e),
)

-- what an absorbed block is of a message that it ends
pub absorbed-more : (rate : ℕ) (held : Held) (m x block : List ℕ) (is : Absorbs rate held m) → held.len + length x ≡ rate
    → block ≡ take held.len held.buffer ++ x
    → (n : ℕ) × (length (m ++ x) ≡ suc n * rate) × (keccak_f (added held.state block) ≡ absorbed rate (m ++ x) (suc n))
unfolding Absorbs absorbed
absorbed-more rate held m x block is full placed =
    let n : ℕ = is.0 in
    let more : suc n * rate ≡ n * rate + rate = grind arith in
    let whole : length (m ++ x) ≡ length m + length x = length-append m x in
    let front : drop (n * rate) m ≡ take held.len held.buffer = sym is.4 in
    let behind : drop (n * rate) (m ++ x) ≡ block = drop-append-le (n * rate) m x (omega (arith, is.1)) ∙ ap (λ (f : List ℕ). f ++ x) front ∙ sym placed in
    let size : length block ≡ rate = ap length (sym behind) ∙ length-drop (n * rate) (m ++ x) ∙ omega (arith, is.1, whole, full) in
    let taken : take rate (drop (n * rate) (m ++ x)) ≡ block = ap (take rate) behind ∙ take_all rate block (omega (arith, size)) in
    let before : held.state ≡ absorbed rate (m ++ x) n = is.3 ∙ sym (absorbed-append rate m x n (omega (arith, is.1))) in
    (n, omega (arith, is.1, whole, full, more), rw (before, taken) refl)

-- a piece that fills the buffer, which is absorbed
pub Absorbs-full : (rate : ℕ) (old new : Held) (m x block : List ℕ) → Absorbs rate old m → 0 < rate → old.len + length x ≡ rate
    → block ≡ take old.len old.buffer ++ x → new.state ≡ keccak_f (added old.state block) → new.len ≡ 0 → Absorbs rate new (m ++ x)
unfolding Absorbs
Absorbs-full rate old new m x block is positive full placed state len =
    let more = absorbed-more rate old m x block is full placed in (
      suc more.0,
      omega (arith, more.1, len),
      omega (arith, len),
      state ∙ more.2,
      ap (λ (n : ℕ). take n new.buffer) len ∙ sym (drop_all (suc more.0 * rate) (m ++ x) (omega (arith, more.1))),
    )

-- one piece more of a text
pub take_more_text : (m text : List ℕ) (start count : ℕ) → (m ++ take start text) ++ take count (drop start text) ≡ m ++ take (start + count) text
take_more_text m text start count = append_assoc m (take start text) (take count (drop start text)) ∙ ap (λ (x : List ℕ). m ++ x) (sym (take-add start count text))
