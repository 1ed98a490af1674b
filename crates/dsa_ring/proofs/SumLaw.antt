-- The transform keeps sums.
use Rattle.std.proofs.Common.{◌≡◌, ℕ, ◌+◌, ◌*◌, ◌%◌, ◌^◌, List, length, get_or, refl, sym, ap, ap₂, ◌∙◌, arith}
use Rattle.std.proofs.Math.Nat.{add-mod, add-mul, mod-mod}
use Rattle.std.proofs.lemmas.Simd.{length-zip2, get_or-zip2}
use Rattle.module_lattice.specs.Ring.{IsPolynomial, plus, sum}
use Rattle.lattice_transform.proofs.Sums.{over, over-mod, over-plus, times-mod}
use Rattle.dsa_ring.specs.Transform.{root, transform, transform_number}
use Rattle.dsa_ring.proofs.Inverse.{length-transform, same-numbers, transform-at}

-- one number
number-sum : (f g : List ℕ) (i : ℕ) → IsPolynomial 8380417 f → IsPolynomial 8380417 g
    → transform_number (sum 8380417 f g) i ≡ plus 8380417 (transform_number f i) (transform_number g i)
number-sum f g i first second =
    let at : List ℕ → ℕ → ℕ = λ f j. get_or f j 0 in
    let total : List ℕ → ℕ = λ f. over 0 256 (λ j. at f j * root i ^ j) in
    over-mod 8380417 0 256 (λ j. at (sum 8380417 f g) j * root i ^ j) (λ j. at f j * root i ^ j + at g j * root i ^ j)
    (λ j j_low j_high.
    times-mod 8380417 (at (sum 8380417 f g) j) (at f j + at g j) (root i ^ j) (root i ^ j)
    (ap (λ x. x % 8380417) (get_or-zip2 (plus 8380417) f g j 0 0 0 (omega (arith, first.size)) (omega (arith, second.size)))
    ∙ mod-mod (at f j + at g j) 8380417) refl
    ∙ ap (λ x. x % 8380417) (add-mul (at f j) (at g j) (root i ^ j)))
    ∙ ap (λ x. x % 8380417) (over-plus 0 256 (λ j. at f j * root i ^ j) (λ j. at g j * root i ^ j))
    ∙ add-mod (total f) (total g) 8380417

pub transform-sum : (f g : List ℕ) → IsPolynomial 8380417 f → IsPolynomial 8380417 g → transform (sum 8380417 f g) ≡ sum 8380417 (transform f) (transform g)
transform-sum f g first second =
    let long : length (transform f) ≡ length (transform g) = length-transform f ∙ sym (length-transform g) in
    same-numbers (transform (sum 8380417 f g)) (sum 8380417 (transform f) (transform g)) (length-transform (sum 8380417 f g))
    (length-zip2 (plus 8380417) (transform f) (transform g) long ∙ length-transform f)
    (λ i inside.
    transform-at (sum 8380417 f g) i inside
    ∙ number-sum f g i first second
    ∙ sym (get_or-zip2 (plus 8380417) (transform f) (transform g) i 0 0 0 (omega (arith, length-transform f)) (omega (arith, length-transform g))
    ∙ ap₂ (plus 8380417) (transform-at f i inside) (transform-at g i inside)))
