use Rattle.std.proofs.Common.{take, [], ◌∷◌, ◌++◌}
use Rattle.bech32_long.specs.Groups.{number_of}
use Rattle.bech32_long.specs.private.Waiting.{IsSplitting}
use Rattle.bech32_long.proofs.groups.write_groups.Given as goal

abbrev pub invariant-loop-group : goal.invariant-loop-group
invariant-loop-group l = IsSplitting (number_of 256 (take l.next (l.bytes ++ 0 ∷ []))) (take l.group-index l.out) l.group-index l.next l.held l.count
