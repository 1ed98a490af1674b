use Rattle.std.proofs.Common.{◌≡◌, ◌*◌, take}
use Rattle.std.specs.List.{flat_map}
use Rattle.ml_kem.specs.Encryption.{compressed}
use Rattle.ml_kem.proofs.encryption.write_compressed_vector.Given as goal

abbrev pub invariant-loop-i : goal.invariant-loop-i
invariant-loop-i l = take (32 * l.d * l.i) l.out ≡ flat_map (compressed l.d) (take l.i l.v)
