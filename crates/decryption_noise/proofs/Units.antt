-- Polynomials on which all sums with weights agree are equal: one coefficient is such a sum.
use Rattle.std.proofs.Common.{◌≡◌, ◌≢◌, ℕ, ◌+◌, ◌*◌, ◌/◌, ◌%◌, ◌<◌, List, get_or, sym, ap, ◌∙◌, arith}
use Rattle.std.specs.Prelude.{◌==◌, if◌then◌else◌}
use Rattle.std.proofs.lemmas.Bool.Decides.{nat_tests}
use Rattle.std.proofs.lemmas.List.{ext_get_or}
use Rattle.module_lattice.specs.Ring.{IsPolynomial}
use Rattle.lattice_transform.proofs.Sums.{over-single}
use Rattle.decryption_noise.proofs.Forms.{Turns, form}

-- 1 at m, -1 at m + 256, and so on
unit : ℕ → ℕ → ℕ
unit m k = if k % 256 == m then if k / 256 % 2 == 0 then 1 else 3328 else 0

unit-here : (m : ℕ) → m < 256 → unit m m ≡ 1
unfolding unit
unit-here m low = grind (arith, nat_tests)

unit-other : (m k : ℕ) → k < 256 → k ≢ m → unit m k ≡ 0
unfolding unit
unit-other m k low apart = grind (arith, nat_tests)

unit-turns : (m : ℕ) → Turns (unit m)
unfolding unit
unit-turns m k =
    let place : (k + 256) % 256 ≡ k % 256 = omega arith in
    let turn : (k + 256) / 256 ≡ k / 256 + 1 = omega arith in
    grind (arith, nat_tests)

-- coefficient m
form-unit : (f : List ℕ) (m : ℕ) → m < 256 → form (unit m) f ≡ get_or f m 0
form-unit f m low =
    over-single 0 256 m (λ k. get_or f k 0 * unit m k) (omega arith) (omega arith)
    (λ k k_low k_high apart. ap (λ x. get_or f k 0 * x) (unit-other m k (omega arith) apart) ∙ omega arith)
    ∙ ap (λ x. get_or f m 0 * x) (unit-here m low) ∙ omega arith

pub same-forms : (f g : List ℕ) → IsPolynomial 3329 f → IsPolynomial 3329 g → ((w : ℕ → ℕ) → Turns w → form w f % 3329 ≡ form w g % 3329) → f ≡ g
same-forms f g is_f is_g same =
    ext_get_or 0 f g (is_f.size ∙ sym is_g.size)
    (λ k within.
    let low : k < 256 = omega (arith, within, is_f.size) in
    let at_f : get_or f k 0 < 3329 = is_f.each k 0 within in
    let at_g : get_or g k 0 < 3329 = is_g.each k 0 (omega (arith, low, is_g.size)) in
    let modulo : get_or f k 0 % 3329 ≡ get_or g k 0 % 3329 =
    ap (λ x. x % 3329) (sym (form-unit f k low)) ∙ same (unit k) (unit-turns k) ∙ ap (λ x. x % 3329) (form-unit g k low) in
    omega arith)
