-- What the transform and its inverse make are polynomials.
use Rattle.std.proofs.Common.{ℕ, List, arith}
use Rattle.std.proofs.Math.Nat.{mod-lt}
use Rattle.std.proofs.lemmas.List.{get_or_default}
use Rattle.module_lattice.specs.Ring.{IsPolynomial}
use Rattle.lattice_transform.specs.Transform.{inverse_coefficient, inverse_transform, transform, transform_number}
use Rattle.lattice_transform.proofs.Inverse.{length-inverse, length-transform}
use Rattle.lattice_transform.proofs.Places.{all-below-pairs}

pub IsPolynomial-transform : (f : List ℕ) → IsPolynomial 3329 (transform f)
unfolding transform
IsPolynomial-transform f = record {
  size = length-transform f;
  each = λ k d inside. rw (get_or_default (transform f) k d 0 inside)
      (all-below-pairs (transform_number f) 128 3329 (λ parity j low below. mod-lt _ (omega arith)) k (omega (arith, inside, length-transform f)));
}

pub IsPolynomial-inverse : (h : List ℕ) → IsPolynomial 3329 (inverse_transform h)
unfolding inverse_transform
IsPolynomial-inverse h = record {
  size = length-inverse h;
  each = λ k d inside. rw (get_or_default (inverse_transform h) k d 0 inside)
      (all-below-pairs (inverse_coefficient h) 128 3329 (λ parity j low inside. mod-lt _ (omega arith)) k (omega (arith, inside, length-inverse h)));
}
