use Rattle.std.proofs.Common.{◌≡◌, ◌*◌, All, take}
use Rattle.std.specs.List.{flat_map}
use Rattle.module_lattice.specs.Groups.{groups}
use Rattle.module_lattice.specs.Ring.{IsPolynomial}
use Rattle.module_lattice.proofs.encode.NttVectorEncode.encode.Given as goal

abbrev pub invariant-loop-i : goal.invariant-loop-i
invariant-loop-i g l = record {
  bytes : take (32 * l.d * l.i) l.out ≡ flat_map (groups l.d) (take l.i l.self);
  polynomials : All (IsPolynomial g.F.Field.Q) (take l.i l.self);
}
