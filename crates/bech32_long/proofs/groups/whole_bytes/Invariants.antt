use Rattle.std.proofs.Common.{take}
use Rattle.bech32_long.specs.Groups.{number_of}
use Rattle.bech32_long.specs.private.Waiting.{IsJoining}
use Rattle.bech32_long.proofs.groups.whole_bytes.Given as goal

abbrev pub invariant-loop-value : goal.invariant-loop-value
invariant-loop-value l = IsJoining (number_of 32 (take l.value-index l.values)) l.bytes.items l.value-index l.held l.count
