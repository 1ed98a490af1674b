use Rattle.std.proofs.Common.{◌≡◌, map, take}
use Rattle.std.specs.String.{string_bytes}
use Rattle.age_format.proofs.format.borrowed.owned.Given as goal

-- the strings so far
abbrev pub invariant-loop-string : goal.invariant-loop-string
invariant-loop-string l = map string_bytes l.owned.items ≡ map (λ string. string.now) (take l.string-index l.strings)
