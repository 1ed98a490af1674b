-- Vectors in bytes, polynomial by polynomial.
use Rattle.std.proofs.Common.{◌≡◌, ◌≢◌, ◌⊎◌, ℕ, zero, suc, ◌+◌, ◌*◌, ◌^◌, ◌<◌, ◌≤◌, inl, inr, All, map, subst, ap₂, length-drop, length-take-le, List, [], ◌∷◌, ◌++◌, length, take, drop, get_or, slice_get, Some, if◌then◌else◌, refl, sym, ap, ◌∙◌, arith, append-nil, mul-le-mul_left, mul-zero, take_all, drop-drop}
use Rattle.std.specs.List.{flat_map}
use Rattle.std.proofs.Math.Seq.{drop-append_seam, take-append_seam}
use Rattle.std.proofs.lemmas.Bool.{cases_eq, cases_lt, eq-eqb, ne_eqb}
use Rattle.std.proofs.lemmas.Bool.Decides.{nat_tests}
use Rattle.std.proofs.lemmas.List.Elements.{All-append, All-cons, All-head, All-map, All-nil, All-same, All-tail, All-weaker}
use Rattle.std.proofs.lemmas.Grind.{flat_map-append}
use Rattle.std.proofs.lemmas.List.{length-map, take_more}
use Rattle.std.proofs.lemmas.Option.{get_or_from_slice_get}
use Rattle.std.proofs.lemmas.Slice.{take-put_mid}
use borrow.Rule.Slice.PartMut.{put_mid}
use Rattle.module_lattice.specs.Groups.{decode12, decoded, decoded_each, groups, reduced_once, ungroup}
use Rattle.module_lattice.specs.Ring.{IsPolynomial}
use Rattle.module_lattice.proofs.Regrouping.{All-regroup, length-regroup, regroup-regroup}
use Rattle.module_lattice.proofs.Units.{All-narrow, All-reduced, decode12-groups}
use Rattle.module_lattice.proofs.Vectors.{pushed}

-- at 12 bits and at others
pub decoded-12 : (q d : ℕ) (bytes : List ℕ) → d ≡ 12 → decoded q d bytes ≡ decode12 q bytes
decoded-12 q d bytes is = ap (λ t. if t then decode12 q bytes else ungroup d bytes) (eq-eqb d 12 is)

pub decoded-other : (q d : ℕ) (bytes : List ℕ) → d ≢ 12 → decoded q d bytes ≡ ungroup d bytes
decoded-other q d bytes not = ap (λ t. if t then decode12 q bytes else ungroup d bytes) (ne_eqb d 12 not)

-- 256 numbers in bytes
pub length-groups : (d : ℕ) (f : List ℕ) → length f ≡ 256 → length (groups d f) ≡ 32 * d
unfolding groups
length-groups d f long = length-regroup d 8 (32 * d) f (omega arith) (ap (λ (k : ℕ). d * k) long ∙ omega arith)

-- numbers that one subtraction may lower stay below a bound
All-lowered : (q n : ℕ) (xs : List ℕ) → All (λ x. x < n) xs → All (λ x. x < n) (map (reduced_once q) xs)
All-lowered q n xs each =
    All-map (λ x. x < n) (reduced_once q) xs (All-weaker (λ x. x < n) (λ x. reduced_once q x < n) (λ x lt.
    elim (cases_lt x q) [
      | inl below ↦ grind (arith, nat_tests)
      | inr above ↦ grind (arith, nat_tests)
    ]) xs each)

-- numbers of d bits are below 2^d
pub All-decoded : (q d : ℕ) (bytes : List ℕ) → All (λ x. x < 2 ^ d) (decoded q d bytes)
unfolding decode12 ungroup
All-decoded q d bytes = elim (cases_eq d 12) [
  | inl is ↦ All-same (λ x. x < 2 ^ d) (decoded q d bytes) (decode12 q bytes) (decoded-12 q d bytes is)
      (rw is (All-lowered q (2 ^ 12) (ungroup 12 bytes) (All-regroup 8 12 bytes)))
  | inr not ↦ All-same (λ x. x < 2 ^ d) (decoded q d bytes) (ungroup d bytes) (decoded-other q d bytes not) (All-regroup 8 d bytes)
]

pub All-decoded_each : (q d count : ℕ) (bytes : List ℕ) → All (λ f. All (λ x. x < 2 ^ d) f) (decoded_each q d count bytes)
All-decoded_each q d zero bytes = λ k e within. absurd (omega arith)
All-decoded_each q d (suc count) bytes =
    All-cons (λ f. All (λ x. x < 2 ^ d) f) (decoded q d (take (32 * d) bytes)) (decoded_each q d count (drop (32 * d) bytes))
    (All-decoded q d (take (32 * d) bytes)) (All-decoded_each q d count (drop (32 * d) bytes))

-- what was written is read
decoded-groups : (q d : ℕ) (f : List ℕ) → 1 ≤ d → length f ≡ 256 → All (λ x. x < 2 ^ d) f → All (λ x. x < q) f → decoded q d (groups d f) ≡ f
unfolding groups ungroup
decoded-groups q d f positive long narrow below = elim (cases_eq d 12) [
  | inl is ↦ decoded-12 q d (groups d f) is ∙ ap (λ (d : ℕ). decode12 q (groups d f)) is
      ∙ decode12-groups q 384 f (ap (λ (k : ℕ). 12 * k) long) (rw is at narrow) below
  | inr not ↦ decoded-other q d (groups d f) not
      ∙ regroup-regroup d 8 (32 * d) f positive (omega arith) (ap (λ (k : ℕ). d * k) long ∙ omega arith) narrow
]

pub decoded_each-groups : (q d : ℕ) (fs : List (List ℕ)) → 1 ≤ d → All (IsPolynomial q) fs → All (λ f. All (λ x. x < 2 ^ d) f) fs
    → decoded_each q d (length fs) (flat_map (groups d) fs) ≡ fs
decoded_each-groups q d [] positive each narrow = refl
decoded_each-groups q d (f ∷ fs) positive each narrow =
    let is : IsPolynomial q f = All-head (IsPolynomial q) f fs each in
    let written : length (groups d f) ≡ 32 * d = length-groups d f is.size in
    ap₂ (λ g gs. g ∷ gs)
    (ap (decoded q d) (ap (λ (k : ℕ). take k (groups d f ++ flat_map (groups d) fs)) (sym written) ∙ take-append_seam (groups d f) (flat_map (groups d) fs))
    ∙ decoded-groups q d f positive is.size (All-head (λ f. All (λ x. x < 2 ^ d) f) f fs narrow) is.each)
    (ap (decoded_each q d (length fs)) (ap (λ (k : ℕ). drop k (groups d f ++ flat_map (groups d) fs)) (sym written) ∙ drop-append_seam (groups d f) (flat_map (groups d) fs))
    ∙ decoded_each-groups q d fs positive (All-tail (IsPolynomial q) f fs each) (All-tail (λ f. All (λ x. x < 2 ^ d) f) f fs narrow))

-- the piece at place i of n
pub piece-room : (size n i : ℕ) → i < n → size * i + size ≤ size * n
piece-room size n i within = omega (arith, mul-le-mul_left size within)

-- one polynomial more is written
pub each-more : (f : List ℕ → List ℕ) (size i k : ℕ) (fs : List (List ℕ)) (g out ys : List ℕ) → i < length fs → slice_get fs i ≡ Some g
    → size * i + size ≤ length out → length (f g) ≡ size → ys ≡ f g → take (size * i) out ≡ flat_map f (take i fs)
    → take (size * (i + 1)) (put_mid (size * i) k out ys) ≡ flat_map f (take (i + 1) fs)
each-more f size i k fs g out ys within at room long is before =
    let written : length ys ≡ size = ap length is ∙ long in
    take-put_mid (size * i) k out ys (size * (i + 1)) (omega arith) (omega arith)
    ∙ ap (λ (x : List ℕ). x ++ ys) before
    ∙ ap (λ (x : List ℕ). flat_map f (take i fs) ++ x) (is ∙ sym (append-nil (f g)))
    ∙ sym (ap (flat_map f) (take_more fs i g within ∙ ap (λ h. take i fs ++ h ∷ []) (get_or_from_slice_get fs i g g at))
    ∙ flat_map-append f (take i fs) (g ∷ []))

-- how many polynomials are read
pub length-decoded_each : (q d count : ℕ) (bytes : List ℕ) → length (decoded_each q d count bytes) ≡ count
length-decoded_each q d zero bytes = refl
length-decoded_each q d (suc count) bytes = ap suc (length-decoded_each q d count (drop (32 * d) bytes))

-- the polynomial that is read at a place
pub decoded_each-at : (q d count : ℕ) (bytes : List ℕ) (i : ℕ) (e : List ℕ) → i < count
    → get_or (decoded_each q d count bytes) i e ≡ decoded q d (take (32 * d) (drop (32 * d * i) bytes))
decoded_each-at q d zero bytes i e within = absurd (omega arith)
decoded_each-at q d (suc count) bytes zero e within = ap (λ (k : ℕ). decoded q d (take (32 * d) (drop k bytes))) (sym (mul-zero (32 * d)))
decoded_each-at q d (suc count) bytes (suc i) e within =
    decoded_each-at q d count (drop (32 * d) bytes) i e (omega arith)
    ∙ ap (λ bytes. decoded q d (take (32 * d) bytes)) (drop-drop (32 * d * i) (32 * d) bytes ∙ ap (λ (k : ℕ). drop k bytes) (omega arith))

-- one polynomial more is read
pub decoded_more : (q d count : ℕ) (bytes : List ℕ) (i : ℕ) (out : List (List ℕ)) (f : List ℕ) → i < count
    → f ≡ decoded q d (take (32 * d) (drop (32 * d * i) bytes)) → out ≡ take i (decoded_each q d count bytes)
    → out ++ f ∷ [] ≡ take (i + 1) (decoded_each q d count bytes)
decoded_more q d count bytes i out f within is made =
    pushed (decoded_each q d count bytes) out i f (rw (length-decoded_each q d count bytes) within)
    (is ∙ sym (decoded_each-at q d count bytes i f within)) made

-- all are read
pub decoded_done : (q d count : ℕ) (bytes : List ℕ) (i : ℕ) (out : List (List ℕ)) → count ≤ i
    → out ≡ take i (decoded_each q d count bytes) → out ≡ decoded_each q d count bytes
decoded_done q d count bytes i out all made =
    made ∙ take_all i (decoded_each q d count bytes) (rw (length-decoded_each q d count bytes) all)

-- ---- what is decoded is a polynomial

abbrev pub Width : ℕ → ℕ → Type 0
Width q d = (2 ^ d ≤ q) ⊎ ((d ≡ 12) × (4096 ≤ 2 * q))

length-ungroup : (d : ℕ) (bytes : List ℕ) → 1 ≤ d → length bytes ≡ 32 * d → length (ungroup d bytes) ≡ 256
unfolding ungroup
length-ungroup d bytes positive long = length-regroup 8 d 256 bytes positive (ap (λ (k : ℕ). 8 * k) long ∙ omega arith)

polynomial-12 : (q : ℕ) (bytes : List ℕ) → (2 ^ 12 ≤ q) ⊎ (4096 ≤ 2 * q) → length bytes ≡ 32 * 12 → IsPolynomial q (decode12 q bytes)
unfolding decode12 ungroup
polynomial-12 q bytes fits long = record {
  size = length-map (ungroup 12 bytes) (reduced_once q) ∙ length-ungroup 12 bytes (omega arith) long;
  each = All-reduced q (ungroup 12 bytes) fits (All-regroup 8 12 bytes);
}

polynomial-narrow : (q d : ℕ) (bytes : List ℕ) → 1 ≤ d → 2 ^ d ≤ q → length bytes ≡ 32 * d → IsPolynomial q (ungroup d bytes)
unfolding ungroup
polynomial-narrow q d bytes positive fits long = record {
  size = length-ungroup d bytes positive long;
  each = All-narrow q d (ungroup d bytes) fits (All-regroup 8 d bytes);
}

polynomial-decoded : (q d : ℕ) (bytes : List ℕ) → 1 ≤ d → Width q d → length bytes ≡ 32 * d → IsPolynomial q (decoded q d bytes)
polynomial-decoded q d bytes positive width long = elim (cases_eq d 12) [
  | inl is ↦
      let fits : (2 ^ 12 ≤ q) ⊎ (4096 ≤ 2 * q) = elim width [
        | inl narrow ↦ inl (rw is at narrow)
        | inr wide ↦ inr wide.1
      ] in
      subst (IsPolynomial q) (sym (decoded-12 q d bytes is)) (polynomial-12 q bytes fits (long ∙ ap (λ (k : ℕ). 32 * k) is))
  | inr not ↦
      let fits : 2 ^ d ≤ q = elim width [
        | inl narrow ↦ narrow
        | inr wide ↦ absurd (not wide.0)
      ] in
      subst (IsPolynomial q) (sym (decoded-other q d bytes not)) (polynomial-narrow q d bytes positive fits long)
]

pub All-polynomials : (q d count : ℕ) (bytes : List ℕ) → 1 ≤ d → Width q d → length bytes ≡ 32 * d * count
    → All (IsPolynomial q) (decoded_each q d count bytes)
All-polynomials q d zero bytes positive width long = All-nil (IsPolynomial q)
All-polynomials q d (suc count) bytes positive width long =
    let size : ℕ = 32 * d in
    All-cons (IsPolynomial q) (decoded q d (take (32 * d) bytes)) (decoded_each q d count (drop (32 * d) bytes))
    (polynomial-decoded q d (take (32 * d) bytes) positive width (length-take-le (32 * d) bytes (omega arith)))
    (All-polynomials q d count (drop (32 * d) bytes) positive width (length-drop (32 * d) bytes ∙ omega arith))

-- one polynomial
pub All-one : (q : ℕ) (f g : List ℕ) → f ≡ g → IsPolynomial q g → All (IsPolynomial q) (f ∷ [])
All-one q f g same is = All-cons (IsPolynomial q) f [] (subst (IsPolynomial q) (sym same) is) (All-nil (IsPolynomial q))

-- one polynomial more
pub All-one-more : (q i : ℕ) (fs : List (List ℕ)) (g : List ℕ) → i < length fs → slice_get fs i ≡ Some g → IsPolynomial q g
    → All (IsPolynomial q) (take i fs) → All (IsPolynomial q) (take (i + 1) fs)
All-one-more q i fs g within at is each =
    subst (All (IsPolynomial q)) (sym (take_more fs i g within ∙ ap (λ h. take i fs ++ h ∷ []) (get_or_from_slice_get fs i g g at)))
    (All-append (IsPolynomial q) (take i fs) (g ∷ []) each (All-one q g g refl is))
