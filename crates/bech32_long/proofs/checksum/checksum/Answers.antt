use Rattle.std.proofs.Common.{ℕ, ◌<◌, All, sym, ap, subst, ◌∙◌, replicate, arith}
use Rattle.std.specs.Prelude.{bit_xor}
use Rattle.bech32_long.specs.Groups.{digits_of}
use Rattle.bech32_long.specs.private.Register.{register_after}
use Rattle.bech32_long.proofs.DigitLemmas.{digits_of-lt}
use Rattle.bech32_long.proofs.Registers.{checksum-register}
use Rattle.bech32_long.proofs.checksum.checksum.Goals as goal

pub returns-clause-value : goal.returns-clause-value
returns-clause-value c =
    c.values_of.ensures
    ∙ ap (λ (r : ℕ). digits_of 32 6 (bit_xor r 1)) (c.after_values.ensures.value
    ∙ ap (λ (r : ℕ). register_after r (replicate 6 0)) (c.after_values-register.ensures.value ∙ ap (λ (r : ℕ). register_after r c.args.values.now) c.after_part.ensures.value))
    ∙ sym (checksum-register c.args.part.now c.args.values.now (λ k. (c.type_inv.part k).fits) c.requires)

pub returns-clause-bound : goal.returns-clause-bound
returns-clause-bound c = subst (All (λ (v : ℕ). v < 32)) (sym c.values_of.ensures) (digits_of-lt 32 6 (bit_xor c.after_values.result 1) (omega arith))
