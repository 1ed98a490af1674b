use Rattle.std.proofs.Common.{◌≡◌, ◌<◌, ℕ, get_or, length}
use Rattle.module_lattice.specs.Ring.{IsPolynomial, times}
use Rattle.dsa_ring.proofs.products.dsa_multiply.Given as goal

-- the places before this one were multiplied
abbrev pub invariant-loop-i : goal.invariant-loop-i
invariant-loop-i l = record {
  size : length l.values ≡ 256;
  made : (k : ℕ) → k < l.i → get_or l.values k 0 ≡ times 8380417 (get_or l.a k 0) (get_or l.b k 0);
  first : 0 < l.i → IsPolynomial 8380417 l.a;
  second : 0 < l.i → IsPolynomial 8380417 l.b;
}
