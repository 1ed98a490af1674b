-- Lists of 256 numbers, pair by pair.
use Rattle.std.proofs.Common.{◌≡◌, ℕ, zero, suc, ◌+◌, ◌*◌, ◌/◌, ◌%◌, ◌<◌, List, [], ◌∷◌, length, get_or, refl, subst, sym, ap, ◌∙◌, arith}
use Rattle.std.specs.List.{flat_map, range_with_len}
use Rattle.std.proofs.Math.Nat.{div-add-mod}
use Rattle.std.proofs.lemmas.List.{ext_get_or}
use Rattle.std.proofs.lemmas.List.Concat.{flat_map-cons}

-- the list of the pairs of a rule
abbrev pub pairs : (ℕ → ℕ → ℕ) → ℕ → ℕ → List ℕ
pairs t a n = flat_map (λ i. t 0 i ∷ t 1 i ∷ []) (range_with_len a n)

pairs-suc : (t : ℕ → ℕ → ℕ) (a n : ℕ) → pairs t a (suc n) ≡ t 0 a ∷ t 1 a ∷ pairs t (a + 1) n
pairs-suc t a n = flat_map-cons (λ i. t 0 i ∷ t 1 i ∷ []) a (range_with_len (a + 1) n)

pub length-pairs : (t : ℕ → ℕ → ℕ) (a n : ℕ) → length (pairs t a n) ≡ 2 * n
length-pairs t a zero = refl
length-pairs t a (suc n) =
    let rest : length (pairs t (a + 1) n) ≡ 2 * n = length-pairs t (a + 1) n in
    ap length (pairs-suc t a n) ∙ ap (λ k. suc (suc k)) rest ∙ omega arith

pairs-even : (t : ℕ → ℕ → ℕ) (a n i k : ℕ) → k ≡ 2 * i → i < n → get_or (pairs t a n) k 0 ≡ t 0 (a + i)
pairs-even t a zero i k is inside = absurd (omega arith)
pairs-even t a (suc n) zero k is inside =
    let start : a ≡ a + zero = omega arith in
    let first : k ≡ zero = omega arith in
    ap (λ xs. get_or xs k 0) (pairs-suc t a n) ∙ ap (λ (k : ℕ). get_or (t 0 a ∷ t 1 a ∷ pairs t (a + 1) n) k 0) first ∙ ap (t 0) start
pairs-even t a (suc n) (suc i) k is inside =
    let next : k ≡ suc (suc (2 * i)) = omega arith in
    let place : a + 1 + i ≡ a + suc i = omega arith in
    ap (λ xs. get_or xs k 0) (pairs-suc t a n) ∙ ap (λ (k : ℕ). get_or (t 0 a ∷ t 1 a ∷ pairs t (a + 1) n) k 0) next
    ∙ pairs-even t (a + 1) n i (2 * i) refl (omega arith) ∙ ap (t 0) place

pairs-odd : (t : ℕ → ℕ → ℕ) (a n i k : ℕ) → k ≡ 2 * i + 1 → i < n → get_or (pairs t a n) k 0 ≡ t 1 (a + i)
pairs-odd t a zero i k is inside = absurd (omega arith)
pairs-odd t a (suc n) zero k is inside =
    let start : a ≡ a + zero = omega arith in
    let first : k ≡ suc zero = omega arith in
    ap (λ xs. get_or xs k 0) (pairs-suc t a n) ∙ ap (λ (k : ℕ). get_or (t 0 a ∷ t 1 a ∷ pairs t (a + 1) n) k 0) first ∙ ap (t 1) start
pairs-odd t a (suc n) (suc i) k is inside =
    let next : k ≡ suc (suc (2 * i + 1)) = omega arith in
    let place : a + 1 + i ≡ a + suc i = omega arith in
    ap (λ xs. get_or xs k 0) (pairs-suc t a n) ∙ ap (λ (k : ℕ). get_or (t 0 a ∷ t 1 a ∷ pairs t (a + 1) n) k 0) next
    ∙ pairs-odd t (a + 1) n i (2 * i + 1) refl (omega arith) ∙ ap (t 1) place

-- the number at 2·i + parity
pub pairs-at : (t : ℕ → ℕ → ℕ) (n parity i : ℕ) → parity < 2 → i < n → get_or (pairs t 0 n) (2 * i + parity) 0 ≡ t parity i
pairs-at t n zero i low inside =
    let start : 0 + i ≡ i = omega arith in
    pairs-even t 0 n i (2 * i + zero) (omega arith) inside ∙ ap (t 0) start
pairs-at t n (suc zero) i low inside =
    let start : 0 + i ≡ i = omega arith in
    pairs-odd t 0 n i (2 * i + suc zero) (omega arith) inside ∙ ap (t 1) start
pairs-at t n (suc (suc parity)) i low inside = absurd (omega arith)

-- lists are the same where their pairs are
pub same-pairs : (xs ys : List ℕ) (n : ℕ) → length xs ≡ 2 * n → length ys ≡ 2 * n
    → ((parity i : ℕ) → parity < 2 → i < n → get_or xs (2 * i + parity) 0 ≡ get_or ys (2 * i + parity) 0) → xs ≡ ys
same-pairs xs ys n long long2 same = ext_get_or 0 xs ys (long ∙ sym long2) (λ k inside.
    let whole : 2 * (k / 2) + k % 2 ≡ k = div-add-mod k 2 in
    ap (λ (k : ℕ). get_or xs k 0) (sym whole)
    ∙ same (k % 2) (k / 2) (omega arith) (omega (arith, inside, long))
    ∙ ap (λ (k : ℕ). get_or ys k 0) whole)

-- all numbers are below q where those of the rule are
pub all-below-pairs : (t : ℕ → ℕ → ℕ) (n q : ℕ) → ((parity i : ℕ) → parity < 2 → i < n → t parity i < q)
    → (k : ℕ) → k < 2 * n → get_or (pairs t 0 n) k 0 < q
all-below-pairs t n q below k inside =
    let whole : 2 * (k / 2) + k % 2 ≡ k = div-add-mod k 2 in
    subst (λ x. x < q)
    (sym (pairs-at t n (k % 2) (k / 2) (omega arith) (omega arith)) ∙ ap (λ (k : ℕ). get_or (pairs t 0 n) k 0) whole)
    (below (k % 2) (k / 2) (omega arith) (omega arith))
