use Rattle.std.proofs.Common.{arith}
use Rattle.std.proofs.lemmas.Nat.{one_shl}
use Rattle.ml_kem.proofs.Rounded.{decompress-lt}
use Rattle.ml_kem.proofs.rounding.decompress.Goals as goal

pub returns-clause-in_field : goal.returns-clause-in_field
returns-clause-in_field c =
    let narrow = c.requires.narrow in
    rw (one_shl c.args.d 32 (omega arith)) (decompress-lt c.args.d c.args.y c.requires.narrow c.requires.in_width)
