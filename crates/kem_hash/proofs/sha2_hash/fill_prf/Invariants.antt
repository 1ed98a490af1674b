use Rattle.std.proofs.Common.{◌≡◌, ◌*◌, take}
use Rattle.std.specs.List.{flat_map, range_with_len}
use Rattle.kem_hash.specs.Sha2.{prf_digest}
use Rattle.kem_hash.proofs.sha2_hash.fill_prf.Given as goal

abbrev pub invariant-loop-c : goal.invariant-loop-c
invariant-loop-c l = take (32 * l.c) l.out ≡ flat_map (prf_digest l.s l.b) (range_with_len 0 l.c)
