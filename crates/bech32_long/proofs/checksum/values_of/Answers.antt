use Rattle.std.proofs.Common.{◌≡◌, ◌/◌, ◌%◌, ◌^◌, arith}
use Rattle.bech32_long.proofs.DigitLemmas.{six_digits}
use Rattle.bech32_long.proofs.checksum.values_of.Goals as goal

pub returns : goal.returns
returns c =
    let top : c.args.register / 2 ^ 25 % 32 ≡ c.args.register / 2 ^ 25 = omega arith in
    rw (six_digits c.args.register, top)
