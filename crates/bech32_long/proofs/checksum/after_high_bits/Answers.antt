use Rattle.std.proofs.Common.{ℕ, ◌/◌, get_or, sym, ap, ◌∙◌}
use Rattle.bech32_long.specs.private.Register.{next_register}
use Rattle.bech32_long.proofs.Registers.{register_after-more, register_after-nil}
use Rattle.bech32_long.proofs.checksum.after_high_bits.Goals as goal

pub loop-b-init : goal.loop-b-init
loop-b-init c = (sym (register_after-nil c.args.register), c.requires)

pub loop-b-preserved : goal.loop-b-preserved
loop-b-preserved c = let f : ℕ → ℕ = λ b. b / 32 in (
  c.next_register-register.ensures.value ∙ ap (λ (r : ℕ). next_register r (f (get_or c.args.part.now c.loop-b.b-index 0))) c.loop-b.invariant.0
      ∙ sym (register_after-more f c.args.register c.args.part.now c.loop-b.b-index c.loop-b-test.true),
  c.next_register-register.ensures.bound,
)
