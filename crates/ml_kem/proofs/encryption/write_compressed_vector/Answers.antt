use Rattle.std.proofs.Common.{◌*◌, arith, length}
use Rattle.ml_kem.specs.Encryption.{compressed}
use Rattle.ml_kem.proofs.Building.{piece-room, piece-written, read}
use Rattle.ml_kem.proofs.encryption.write_compressed_vector.Goals as goal

pub loop-i-preserved : goal.loop-i-preserved
loop-i-preserved c =
    piece-written (compressed c.args.d) (32 * c.args.d) c.loop-i.i _ c.args.v.now c.item.result.now c.loop-i.out c.write_compressed.new.out
    (omega arith) (read c.args.v.now c.loop-i.i c.item.result.now c.item.ensures)
    (omega (arith, piece-room (32 * c.args.d) (length c.args.v.now) c.loop-i.i (omega arith)))
    (omega arith) c.write_compressed.ensures c.loop-i.invariant
