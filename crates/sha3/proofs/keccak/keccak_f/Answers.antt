use Rattle.std.proofs.Common.{◌≡◌, refl, ◌∙◌, ap, add-one, arith}
use Rattle.sha3.specs.Keccak.{keccak_f, rounds}
use Rattle.sha3.proofs.keccak.keccak_f.Goals as goal

pub loop-ir-init : goal.loop-ir-init
unfolding rounds
loop-ir-init c = refl

pub loop-ir-preserved : goal.loop-ir-preserved
unfolding rounds
loop-ir-preserved c = rw add-one cc

pub returns : goal.returns
unfolding keccak_f
returns c =
    let all : c.loop-ir.ir ≡ 24 = omega arith in
    c.loop-ir.invariant ∙ ap (rounds c.args.a) all
