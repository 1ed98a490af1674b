use Rattle.std.proofs.Common.{ℕ, get_or, sym, ap, ◌∙◌}
use Rattle.bech32_long.specs.private.Register.{next_register}
use Rattle.bech32_long.proofs.Registers.{register_after-more, register_after-nil}
use Rattle.bech32_long.proofs.checksum.after_values.Goals as goal

pub loop-value-init : goal.loop-value-init
loop-value-init c = (sym (register_after-nil c.args.register), c.requires.register)

pub loop-value-preserved : goal.loop-value-preserved
loop-value-preserved c = let f : ℕ → ℕ = λ x. x in (
  c.next_register-register.ensures.value ∙ ap (λ (r : ℕ). next_register r (f (get_or c.args.values.now c.loop-value.value-index 0))) c.loop-value.invariant.0
      ∙ sym (register_after-more f c.args.register c.args.values.now c.loop-value.value-index c.loop-value-test.true),
  c.next_register-register.ensures.bound,
)
