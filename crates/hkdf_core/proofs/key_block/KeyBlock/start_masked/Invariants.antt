use Rattle.std.proofs.Common.{◌≡◌, ◌++◌, take, drop}
use Rattle.hkdf_core.specs.Hmac.{masked}
use Rattle.hkdf_core.proofs.key_block.KeyBlock.start_masked.Given as goal

abbrev pub invariant-loop-byte : goal.invariant-loop-byte
invariant-loop-byte g l =
    l.byte-items ≡ masked l.pad (take l.byte-index l.initial.byte-items) ++ drop l.byte-index l.initial.byte-items
