use Rattle.std.proofs.Common.{arith}
use Rattle.bech32_long.specs.Text.{character}
use Rattle.bech32_long.proofs.Mapped.{IsMapped-next, IsMapped-more, IsMapped-none, IsMapped-all}
use Rattle.bech32_long.proofs.text.write_characters.Goals as goal

pub loop-value-init : goal.loop-value-init
loop-value-init c = IsMapped-none character c.args.values.now

pub bounds-value : goal.bounds-value
bounds-value c =
    let same = IsMapped-next character c.args.values.now c.loop-value.values c.loop-value.value-index (omega arith) (omega arith) c.loop-value.invariant in
    let below = c.requires c.loop-value.value-index 0 (omega arith) in
    rw same below

pub loop-value-preserved : goal.loop-value-preserved
loop-value-preserved c = IsMapped-more character c.args.values.now c.loop-value.values c.loop-value.value-index (omega arith) (omega arith) c.loop-value.invariant

pub returns : goal.returns
returns c = IsMapped-all character c.args.values.now c.loop-value.values c.loop-value.value-index (omega arith) (omega arith) c.loop-value.invariant
