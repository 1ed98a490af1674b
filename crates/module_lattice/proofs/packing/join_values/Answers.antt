use Rattle.std.proofs.Common.{ℕ, ◌*◌, ◌%◌, ◌^◌, ap, ◌∙◌, refl, bit_or}
use Rattle.module_lattice.specs.Bits.{bits_of_each, number_of}
use Rattle.module_lattice.proofs.Words.{number_of-or}
use Rattle.module_lattice.proofs.packing.join_values.Goals as goal

pub loop-j-init : goal.loop-j-init
unfolding bits_of_each number_of
loop-j-init c = refl

pub loop-j-preserved : goal.loop-j-preserved
loop-j-preserved c =
    ap (λ (x : ℕ). bit_or c.loop-j.word (x * 2 ^ (c.args.d * c.loop-j.j) % 2 ^ 128)) c.from.ensures
    ∙ number_of-or c.args.d c.loop-j.j c.loop-j.word c.args.values.now c.loop-j-test.true c.requires.in_width c.requires.unit c.loop-j.invariant
