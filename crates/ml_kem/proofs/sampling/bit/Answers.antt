use Rattle.std.proofs.Common.{arith}
use Rattle.std.proofs.lemmas.Nat.Bits.{bit_at-lt, shr_and_one}
use Rattle.ml_kem.proofs.sampling.bit.Goals as goal

pub returns-clause-value : goal.returns-clause-value
returns-clause-value c = shr_and_one c.args.byte c.args.k

pub returns-clause-small : goal.returns-clause-small
returns-clause-small c = omega (arith, shr_and_one c.args.byte c.args.k, bit_at-lt c.args.byte c.args.k)
