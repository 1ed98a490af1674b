use Rattle.std.proofs.Common.{◌≡◌, ◌*◌, take}
use Rattle.std.specs.List.{flat_map, range_with_len}
use Rattle.hash_families.proofs.family.repeat.Given as goal

abbrev pub invariant-loop-t : goal.invariant-loop-t
invariant-loop-t g l = take (3 * l.t) l.out ≡ flat_map (λ i. g.P.Pattern.bytes) (range_with_len 0 l.t)
