use Rattle.std.proofs.Common.{◌-◌, length, replicate, sym, ◌∙◌}
use Rattle.bech32_long.proofs.Parts.{IsStored-lowered}
use Rattle.bech32_long.proofs.hrp.Hrp.from_bytes.Goals as goal

pub invariant_of-result : goal.invariant_of-result
invariant_of-result c =
    (IsStored-lowered c.args.text.now c.lowered.result (replicate (83 - length c.args.text.now) 0) (sym c.is_part.ensures ∙ c.if-not-is_part.false) c.lowered.ensures).1
