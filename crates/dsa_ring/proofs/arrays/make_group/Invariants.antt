use Rattle.std.proofs.Common.{◌≡◌, ◌+◌, ◌*◌, ℕ, List}
use Rattle.module_lattice.specs.Ring.{IsPolynomial}
use Rattle.dsa_ring.specs.Layers.{butterflies}
use Rattle.dsa_ring.proofs.arrays.make_group.Given as goal

-- the first j butterflies of the group were made
abbrev pub invariant-loop-j : goal.invariant-loop-j
invariant-loop-j l = record {
  made : (f : List ℕ) → l.fn.values ≡ butterflies l.half (l.half * l.group) f → l.values ≡ butterflies l.half (l.half * l.group + l.j) f;
  polynomial : IsPolynomial 8380417 l.values;
}
