use Rattle.ml_kem.proofs.Rounded.{compress-decompress}
use Rattle.ml_kem.proofs.laws.compresses_what_was_decompressed.Goals as goal

pub returns : goal.returns
returns c = compress-decompress
