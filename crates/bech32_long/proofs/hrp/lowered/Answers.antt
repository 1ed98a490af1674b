use Rattle.std.proofs.Common.{arith}
use Rattle.bech32_long.proofs.Mapped.{IsLoweredUpTo-none, IsLoweredUpTo-more, IsLoweredUpTo-all}
use Rattle.bech32_long.proofs.hrp.lowered.Goals as goal

pub loop-i-init : goal.loop-i-init
loop-i-init c = IsLoweredUpTo-none c.args.text.now

pub loop-i-preserved : goal.loop-i-preserved
loop-i-preserved c = rw c.to_ascii_lowercase.ensures.value (IsLoweredUpTo-more c.args.text.now c.loop-i.bytes c.loop-i.i c.loop-i-test.true (omega arith) c.loop-i.invariant)

pub returns : goal.returns
returns c = IsLoweredUpTo-all c.args.text.now c.loop-i.bytes c.loop-i.i (omega arith) c.loop-i.invariant
