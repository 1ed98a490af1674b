use Rattle.std.proofs.Common.{take}
use Rattle.std.specs.List.{AllByRecursion}
use Rattle.age_format.specs.Stanza.{IsVisible}
use Rattle.age_format.proofs.format.read.run_len.Given as goal

-- the bytes so far are visible
abbrev pub invariant-loop-i : goal.invariant-loop-i
invariant-loop-i l = AllByRecursion IsVisible (take l.i l.text)
