use Rattle.std.proofs.Common.{◌≡◌, ◌*◌, map}
use Rattle.std.specs.List.{range_with_len}
use Rattle.lattice_transform.specs.Transform.{transform}
use Rattle.ml_kem.specs.Encryption.{decompressed}
use Rattle.ml_kem.specs.Keys.{piece}
use Rattle.ml_kem.proofs.encryption.read_u.Given as goal

abbrev pub invariant-loop-i : goal.invariant-loop-i
invariant-loop-i l = l.items.items ≡ map (λ i. transform (decompressed l.d (piece (32 * l.d) i l.bytes))) (range_with_len 0 l.i)
