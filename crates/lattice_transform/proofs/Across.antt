-- Rows that become columns.
use Rattle.std.proofs.Common.{◌≡◌, ℕ, ◌+◌, ◌*◌, ◌<◌, ◌≤◌, List, length, get_or, map, refl, subst, sym, ap, ◌∙◌, arith}
use Rattle.std.proofs.Math.ListN.{set}
use Rattle.std.specs.List.{range_with_len}
use Rattle.std.proofs.lemmas.List.{ext_get_or, get_or_default}
use Rattle.std.proofs.lemmas.List.FromFn.{get_or-map-range_with_len, length-map-range_with_len}
use Rattle.module_lattice.specs.Ring.{IsPolynomial}
use Rattle.lattice_transform.specs.private.Rows.{across, by_turns, shuffled, transposed}
use Rattle.lattice_transform.proofs.Filled.{Filled, filled-next}
use Rattle.lattice_transform.proofs.Tables.{from_table}

pub length-transposed : (f : List ℕ) → length (transposed f) ≡ 256
unfolding transposed
length-transposed f = length-map-range_with_len (λ k. get_or f (across k) 0) 0 256

pub transposed-at : (f : List ℕ) (k : ℕ) → k < 256 → get_or (transposed f) k 0 ≡ get_or f (across k) 0
unfolding transposed
transposed-at f k inside = get_or-map-range_with_len (λ k. get_or f (across k) 0) 0 256 k k 0 inside (omega arith)

across-inside : (k : ℕ) → k < 256 → across k < 256
across-inside k inside = omega arith

across-twice : (k : ℕ) → k < 256 → across (across k) ≡ k
across-twice k inside = omega arith

-- columns become rows again
pub transposed-twice : (f : List ℕ) → length f ≡ 256 → transposed (transposed f) ≡ f
transposed-twice f long = ext_get_or 0 (transposed (transposed f)) f (length-transposed (transposed f) ∙ sym long) (λ k within.
    let inside : k < 256 = omega (arith, within, length-transposed (transposed f)) in
    transposed-at (transposed f) k inside ∙ transposed-at f (across k) (across-inside k inside) ∙ ap (λ (k : ℕ). get_or f k 0) (across-twice k inside))

-- ---- four shuffles

length-shuffled : (f : List ℕ) → length (shuffled f) ≡ 256
unfolding shuffled
length-shuffled f = length-map-range_with_len (λ k. get_or f (by_turns k) 0) 0 256

shuffled-at : (f : List ℕ) (k : ℕ) → k < 256 → get_or (shuffled f) k 0 ≡ get_or f (by_turns k) 0
unfolding shuffled
shuffled-at f k inside = get_or-map-range_with_len (λ k. get_or f (by_turns k) 0) 0 256 k k 0 inside (omega arith)

by_turns-inside : (k : ℕ) → k < 256 → by_turns k < 256
by_turns-inside k inside = omega arith

four_turns : map (λ k. by_turns (by_turns (by_turns (by_turns k)))) (range_with_len 0 256) ≡ map across (range_with_len 0 256)
four_turns = refl

four-at : (f : List ℕ) (k : ℕ) → k < 256 → get_or (shuffled (shuffled (shuffled (shuffled f)))) k 0 ≡ get_or f (across k) 0
four-at f k inside =
    let one : by_turns k < 256 = by_turns-inside k inside in
    let two : by_turns (by_turns k) < 256 = by_turns-inside (by_turns k) one in
    let three : by_turns (by_turns (by_turns k)) < 256 = by_turns-inside (by_turns (by_turns k)) two in
    shuffled-at (shuffled (shuffled (shuffled f))) k inside
    ∙ shuffled-at (shuffled (shuffled f)) (by_turns k) one
    ∙ shuffled-at (shuffled f) (by_turns (by_turns k)) two
    ∙ shuffled-at f (by_turns (by_turns (by_turns k))) three
    ∙ ap (λ (k : ℕ). get_or f k 0) (from_table (λ k. by_turns (by_turns (by_turns (by_turns k)))) across 0 256 k four_turns (omega arith) (omega arith))

pub four-shuffles : (f : List ℕ) → shuffled (shuffled (shuffled (shuffled f))) ≡ transposed f
four-shuffles f =
    ext_get_or 0 (shuffled (shuffled (shuffled (shuffled f)))) (transposed f) (length-shuffled (shuffled (shuffled (shuffled f))) ∙ sym (length-transposed f)) (λ k within.
    let inside : k < 256 = omega (arith, within, length-shuffled (shuffled (shuffled (shuffled f)))) in
    four-at f k inside ∙ sym (transposed-at f k inside))

-- the loop of a shuffle
pub filled-shuffle : (n : ℕ) (f out : List ℕ) → 256 ≤ n → Filled (λ k. get_or f (by_turns k) 0) n out → out ≡ shuffled f
filled-shuffle n f out all filled = ext_get_or 0 out (shuffled f) (filled.size ∙ sym (length-shuffled f)) (λ k within.
    let inside : k < 256 = omega (arith, within, filled.size) in
    filled.at k (omega arith) ∙ sym (shuffled-at f k inside))

pub filled-pair : (k : ℕ) (f out : List ℕ) (a b : ℕ) → k < 128 → a ≡ get_or f k 0 → b ≡ get_or f (k + 128) 0
    → Filled (λ p. get_or f (by_turns p) 0) (2 * k) out → Filled (λ p. get_or f (by_turns p) 0) (2 * (k + 1)) (set (set out (2 * k) a) (2 * k + 1) b)
filled-pair k f out a b inside first second filled =
    let here : by_turns (2 * k) ≡ k = omega arith in
    let there : by_turns (2 * k + 1) ≡ k + 128 = omega arith in
    let all : 2 * k + 1 + 1 ≡ 2 * (k + 1) = omega arith in
    subst (λ (n : ℕ). Filled (λ p. get_or f (by_turns p) 0) n (set (set out (2 * k) a) (2 * k + 1) b)) all
    (filled-next (λ p. get_or f (by_turns p) 0) (2 * k + 1) b (set out (2 * k) a) (omega arith) (second ∙ ap (λ (i : ℕ). get_or f i 0) (sym there))
    (filled-next (λ p. get_or f (by_turns p) 0) (2 * k) a out (omega arith) (first ∙ ap (λ (i : ℕ). get_or f i 0) (sym here)) filled))

-- numbers that change places stay below q
pub polynomial-transposed : (q : ℕ) (f : List ℕ) → IsPolynomial q f → IsPolynomial q (transposed f)
polynomial-transposed q f is = record {
  size = length-transposed f;
  each = λ k d within.
      let inside : k < 256 = omega (arith, within, length-transposed f) in
      rw (get_or_default (transposed f) k d 0 within) (subst (λ x. x < q) (sym (transposed-at f k inside)) (is.each (across k) 0 (omega (arith, across-inside k inside, is.size))));
}
