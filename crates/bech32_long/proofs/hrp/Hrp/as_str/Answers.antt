use Rattle.std.proofs.Common.{take}
use Rattle.bech32_long.proofs.Parts.{parts_of, visible-utf8}
use Rattle.bech32_long.proofs.hrp.Hrp.as_str.Goals as goal

pub unreachable-requires : goal.unreachable-requires
unreachable-requires c =
    let part = take c.self.inside.len c.self.inside.bytes in
    c.in-Err.ensures.cases.0 (visible-utf8 part (parts_of part c.self.invariant.lowered.visible).visible)
