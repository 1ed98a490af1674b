use Rattle.std.proofs.Common.{◌≡◌, ◌*◌}
use Rattle.module_lattice.specs.Ring.{IsPolynomial}
use Rattle.dsa_ring.specs.Layers.{butterflies}
use Rattle.dsa_ring.proofs.arrays.make_layer.Given as goal

-- the butterflies of the groups before this one were made
abbrev pub invariant-loop-group : goal.invariant-loop-group
invariant-loop-group l = record {
  made : l.values ≡ butterflies l.half (l.half * l.group) l.fn.values;
  polynomial : IsPolynomial 8380417 l.values;
}
