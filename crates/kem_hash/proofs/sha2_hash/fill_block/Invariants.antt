use Rattle.std.proofs.Common.{◌≡◌, ◌*◌, take}
use Rattle.std.specs.List.{flat_map, range_with_len}
use Rattle.kem_hash.specs.Sha2.{xof_digest}
use Rattle.kem_hash.proofs.sha2_hash.fill_block.Given as goal

abbrev pub invariant-loop-k : goal.invariant-loop-k
invariant-loop-k l = take (28 * l.k) l.out ≡ flat_map (xof_digest l.rho l.a l.b) (range_with_len (6 * l.n) l.k)
