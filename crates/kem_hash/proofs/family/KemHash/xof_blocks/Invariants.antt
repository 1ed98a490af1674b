use Rattle.std.proofs.Common.{◌≡◌, ◌*◌, take}
use Rattle.kem_hash.proofs.family.KemHash.xof_blocks.Given as goal

abbrev pub invariant-loop-n : goal.invariant-loop-n
invariant-loop-n g l = take (168 * l.n) l.out ≡ take (168 * l.n) (g.Self.KemHash.family.xof_of l.rho l.a l.b)
