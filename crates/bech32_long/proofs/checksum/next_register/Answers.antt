use Rattle.std.proofs.Common.{refl}
use Rattle.bech32_long.specs.private.Register.{next_register}
use Rattle.bech32_long.proofs.Registers.{next_register-lt}
use Rattle.bech32_long.proofs.checksum.next_register.Goals as goal

pub returns-clause-value : goal.returns-clause-value
unfolding next_register
returns-clause-value c = refl

pub returns-clause-bound : goal.returns-clause-bound
unfolding next_register
returns-clause-bound c = next_register-lt c.args.register c.args.value c.requires.value
