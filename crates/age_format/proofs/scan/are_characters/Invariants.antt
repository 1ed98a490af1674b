use Rattle.std.proofs.Common.{◌≡◌, take}
use Rattle.std.specs.List.{list_all}
use Rattle.age_format.specs.private.Scan.{is_character}
use Rattle.age_format.proofs.scan.are_characters.Given as goal

-- the bytes so far
abbrev pub invariant-loop-byte : goal.invariant-loop-byte
invariant-loop-byte l = l.all ≡ list_all is_character (take l.byte-index l.bytes)
