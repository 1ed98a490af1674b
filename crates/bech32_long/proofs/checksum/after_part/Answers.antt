use Rattle.std.proofs.Common.{ℕ, ◌%◌, map, sym, ap, ◌∙◌}
use Rattle.bech32_long.specs.private.Register.{next_register, register_after}
use Rattle.bech32_long.proofs.Registers.{register_after-expanded}
use Rattle.bech32_long.proofs.checksum.after_part.Goals as goal

pub returns-clause-value : goal.returns-clause-value
returns-clause-value c =
    c.after_low_bits.ensures.value
    ∙ ap (λ (r : ℕ). register_after r (map (λ b. b % 32) c.args.part.now)) (c.next_register-register.ensures.value ∙ ap (λ (r : ℕ). next_register r 0) c.after_high_bits.ensures.value)
    ∙ sym (register_after-expanded c.args.part.now)
