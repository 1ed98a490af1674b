-- When bytes are those of the numbers that they decode to.
use Rattle.std.proofs.Common.{◌≡◌, ◌↔◌, ℕ, ◌+◌, ◌-◌, ◌*◌, ◌^◌, ◌<◌, Bool, IsTrue, List, All, take, drop, length, get_or, map, sym, ap, ◌∙◌, arith, inl, inr}
use Rattle.std.specs.Str.{bytes_eq}
use Rattle.std.proofs.lemmas.Bool.{cases_lt}
use Rattle.std.proofs.lemmas.Bool.Decides.{nat_tests}
use Rattle.std.proofs.lemmas.Slice.Eq.{bytes_eq-Decides}
use Rattle.std.proofs.lemmas.List.{get_or-map, length-map}
use Rattle.std.proofs.lemmas.List.Elements.{All-from_get_or, All-map, All-weaker}
use Rattle.std.proofs.lemmas.List.Folds.{map_fixed}
use Rattle.module_lattice.specs.Groups.{decode12, groups, reduced_once, ungroup}
use Rattle.ml_kem.specs.Keys.{piece}
use Rattle.module_lattice.proofs.Regrouping.{All-regroup, length-regroup, regroup-regroup}

-- what one subtraction of q leaves as it is
kept : (x : ℕ) → reduced_once 3329 x ≡ x → x < 3329
kept x same = elim (cases_lt x 3329) [
  | inl below ↦ below
  | inr above ↦ absurd (grind (arith, nat_tests))
]

below-kept : (x : ℕ) → x < 3329 → reduced_once 3329 x ≡ x
below-kept x below = grind (arith, nat_tests)

-- numbers of 12 bits stay so
lowered : (x : ℕ) → x < 2 ^ 12 → reduced_once 3329 x < 2 ^ 12
lowered x within = elim (cases_lt x 3329) [
  | inl below ↦ grind (arith, nat_tests)
  | inr above ↦ grind (arith, nat_tests)
]

pub reduced-from : (bytes : List ℕ) → length bytes ≡ 384 → groups 12 (decode12 3329 bytes) ≡ bytes → All (λ x. x < 3329) (ungroup 12 bytes)
unfolding groups ungroup decode12
reduced-from bytes long same =
    let numbers : List ℕ = ungroup 12 bytes in
    let lowered_numbers : List ℕ = map (reduced_once 3329) numbers in
    let count : length numbers ≡ 256 = length-regroup 8 12 256 bytes (omega arith) (omega arith) in
    let whole : 12 * length lowered_numbers ≡ 8 * 384 = ap (λ (k : ℕ). 12 * k) (length-map numbers (reduced_once 3329) ∙ count) in
    let narrow : All (λ x. x < 2 ^ 12) lowered_numbers =
    All-map (λ x. x < 2 ^ 12) (reduced_once 3329) numbers (All-weaker (λ x. x < 2 ^ 12) (λ x. reduced_once 3329 x < 2 ^ 12) lowered numbers (All-regroup 8 12 bytes)) in
    let back : lowered_numbers ≡ numbers =
    sym (regroup-regroup 12 8 384 lowered_numbers (omega arith) (omega arith) whole narrow) ∙ ap (ungroup 12) same in
    All-from_get_or (λ x. x < 3329) numbers 0 (λ k within.
    kept (get_or numbers k 0) (sym (get_or-map (reduced_once 3329) numbers k 0 0 within) ∙ ap (λ (xs : List ℕ). get_or xs k 0) back))

pub reduced-to : (bytes : List ℕ) → length bytes ≡ 384 → All (λ x. x < 2 ^ 8) bytes → All (λ x. x < 3329) (ungroup 12 bytes) → groups 12 (decode12 3329 bytes) ≡ bytes
unfolding groups ungroup decode12
reduced-to bytes long each below =
    let numbers : List ℕ = ungroup 12 bytes in
    ap (groups 12) (map_fixed (reduced_once 3329) numbers (All-weaker (λ x. x < 3329) (λ x. reduced_once 3329 x ≡ x) below-kept numbers below))
    ∙ regroup-regroup 8 12 256 bytes (omega arith) (omega arith) (omega arith) each

-- a comparison of bytes with those of their numbers
pub reduced-answer : (answer : Bool) (bytes values again : List ℕ) → length bytes ≡ 384 → ((i : ℕ) → get_or bytes i 0 < 256) → values ≡ decode12 3329 bytes
    → again ≡ groups 12 values → answer ≡ bytes_eq again bytes → IsTrue answer ↔ All (λ x. x < 3329) (ungroup 12 bytes)
reduced-answer answer bytes values again long fits are made is =
    let written : again ≡ groups 12 (decode12 3329 bytes) = made ∙ ap (groups 12) are in (
      λ t.
          let same : again ≡ bytes = (bytes_eq-Decides again bytes).0 (sym is ∙ t) in
          reduced-from bytes long (sym written ∙ same),
      λ below.
          is ∙ (bytes_eq-Decides again bytes).1
          (written ∙ reduced-to bytes long (All-from_get_or (λ x. x < 2 ^ 8) bytes 0 (λ i within. fits i)) below),
    )

-- a slice that is a piece
pub slice-piece : (i : ℕ) (bytes : List ℕ) → take (384 * i + 384 - 384 * i) (drop (384 * i) bytes) ≡ piece 384 i bytes
slice-piece i bytes = let size : 384 * i + 384 - 384 * i ≡ 384 = omega arith in ap (λ (k : ℕ). take k (drop (384 * i) bytes)) size
