use Rattle.std.proofs.Common.{◌≡◌, ◌<◌, ℕ, get_or, length}
use Rattle.module_lattice.specs.Ring.{times}
use Rattle.dsa_ring.proofs.arrays.scaled.Given as goal

-- the places before this one were multiplied
abbrev pub invariant-loop-i : goal.invariant-loop-i
invariant-loop-i l = record {
  size : length l.out ≡ 256;
  made : (k : ℕ) → k < l.i → get_or l.out k 0 ≡ times 8380417 8347681 (get_or l.values k 0);
}
