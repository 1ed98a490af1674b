-- The transform keeps sums.
use Rattle.std.proofs.Common.{◌≡◌, ℕ, ◌+◌, ◌*◌, ◌%◌, ◌^◌, ◌<◌, List, length, get_or, refl, sym, ap, ap₂, ◌∙◌, arith}
use Rattle.std.proofs.Math.Nat.{add-mod, add-mul, mod-mod}
use Rattle.std.proofs.lemmas.Simd.{length-zip2, get_or-zip2}
use Rattle.module_lattice.specs.Pairs.{gamma}
use Rattle.module_lattice.specs.Ring.{IsPolynomial, plus, sum}
use Rattle.lattice_transform.specs.Transform.{transform, transform_number}
use Rattle.lattice_transform.proofs.Inverse.{length-transform, transform-at}
use Rattle.lattice_transform.proofs.Places.{same-pairs}
use Rattle.lattice_transform.proofs.Sums.{over, over-mod, over-plus, times-mod}

-- one number
number-sum : (f g : List ℕ) (parity i : ℕ) → IsPolynomial 3329 f → IsPolynomial 3329 g → parity < 2 → i < 128
    → transform_number (sum 3329 f g) parity i ≡ plus 3329 (transform_number f parity i) (transform_number g parity i)
number-sum f g parity i first second low inside =
    let at : List ℕ → ℕ → ℕ = λ f j. get_or f (2 * j + parity) 0 in
    let total : List ℕ → ℕ = λ f. over 0 128 (λ j. at f j * gamma i ^ j) in
    over-mod 3329 0 128 (λ j. at (sum 3329 f g) j * gamma i ^ j) (λ j. at f j * gamma i ^ j + at g j * gamma i ^ j)
    (λ j j_low j_high.
    times-mod 3329 (at (sum 3329 f g) j) (at f j + at g j) (gamma i ^ j) (gamma i ^ j)
    (ap (λ x. x % 3329) (get_or-zip2 (plus 3329) f g (2 * j + parity) 0 0 0 (omega (arith, first.size)) (omega (arith, second.size)))
    ∙ mod-mod (at f j + at g j) 3329) refl
    ∙ ap (λ x. x % 3329) (add-mul (at f j) (at g j) (gamma i ^ j)))
    ∙ ap (λ x. x % 3329) (over-plus 0 128 (λ j. at f j * gamma i ^ j) (λ j. at g j * gamma i ^ j))
    ∙ add-mod (total f) (total g) 3329

pub transform-sum : (f g : List ℕ) → IsPolynomial 3329 f → IsPolynomial 3329 g → transform (sum 3329 f g) ≡ sum 3329 (transform f) (transform g)
transform-sum f g first second =
    let long : length (transform f) ≡ length (transform g) = length-transform f ∙ sym (length-transform g) in
    same-pairs (transform (sum 3329 f g)) (sum 3329 (transform f) (transform g)) 128 (length-transform (sum 3329 f g))
    (length-zip2 (plus 3329) (transform f) (transform g) long ∙ length-transform f)
    (λ parity i low inside.
    transform-at (sum 3329 f g) parity i low inside
    ∙ number-sum f g parity i first second low inside
    ∙ sym (get_or-zip2 (plus 3329) (transform f) (transform g) (2 * i + parity) 0 0 0
    (omega (arith, length-transform f)) (omega (arith, length-transform g))
    ∙ ap₂ (plus 3329) (transform-at f parity i low inside) (transform-at g parity i low inside)))
