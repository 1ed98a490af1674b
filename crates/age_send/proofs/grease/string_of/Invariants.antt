use Rattle.std.proofs.Common.{◌≡◌, take}
use Rattle.std.specs.String.{string_bytes}
use Rattle.age_send.proofs.grease.string_of.Given as goal

-- the characters so far are in the string
abbrev pub invariant-loop-character : goal.invariant-loop-character
invariant-loop-character l = string_bytes l.string ≡ take l.character-index l.characters
