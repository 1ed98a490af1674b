use Rattle.std.proofs.Common.{ℕ, ◌*◌, ◌%◌, ◌^◌, ◌<◌, All, arith, ap, ◌∙◌, refl, bit_or}
use Rattle.std.proofs.lemmas.List.Elements.{All-from_get_or}
use Rattle.module_lattice.specs.Bits.{bits_of_each, number_of}
use Rattle.module_lattice.proofs.Words.{number_of-or}
use Rattle.module_lattice.proofs.packing.join_bytes.Goals as goal

pub loop-j-init : goal.loop-j-init
unfolding bits_of_each number_of
loop-j-init c = refl

pub loop-j-preserved : goal.loop-j-preserved
loop-j-preserved c =
    let each : All (λ x. x < 2 ^ 8) c.args.bytes.now = All-from_get_or (λ x. x < 2 ^ 8) c.args.bytes.now 0 (λ k lt. (c.type_inv.bytes k).fits) in
    ap (λ (x : ℕ). bit_or c.loop-j.word (x * 2 ^ (8 * c.loop-j.j) % 2 ^ 128)) c.from.ensures
    ∙ number_of-or 8 c.loop-j.j c.loop-j.word c.args.bytes.now c.loop-j-test.true each (omega arith) c.loop-j.invariant
