use Rattle.std.proofs.Common.{ℕ, sym, ap, ◌∙◌}
use Rattle.bech32_long.specs.Groups.{digits_of}
use Rattle.bech32_long.specs.private.Register.{register_after}
use Rattle.bech32_long.proofs.Registers.{is_checked-register, residue-register}
use Rattle.bech32_long.proofs.checksum.is_checked.Goals as goal

pub returns : goal.returns
returns c =
    is_checked-register c.args.part.now c.args.values.now c.after_values.result c.after_values.ensures.bound
    (residue-register c.args.part.now c.args.values.now (λ k. (c.type_inv.part k).fits) c.requires
    ∙ ap (digits_of 32 6) (sym (c.after_values.ensures.value ∙ ap (λ (r : ℕ). register_after r c.args.values.now) c.after_part.ensures.value)))
