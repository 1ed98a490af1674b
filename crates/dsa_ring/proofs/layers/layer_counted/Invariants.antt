use Rattle.std.proofs.Common.{◌≡◌, ◌+◌, ◌<◌}
use Rattle.module_lattice.specs.Ring.{IsPolynomial}
use Rattle.dsa_ring.specs.Layers.{butterflies}
use Rattle.dsa_ring.proofs.layers.layer_counted.Given as goal

-- the first k butterflies were made, and counted
abbrev pub invariant-loop-k : goal.invariant-loop-k
invariant-loop-k g l = record {
  made : g.B.Butterflies.values l.values ≡ butterflies l.half l.k (g.B.Butterflies.values l.fn.values);
  before : 0 < l.k → IsPolynomial 8380417 (g.B.Butterflies.values l.fn.values);
  counted : l.steps ≡ l.fn.steps + l.k;
}
