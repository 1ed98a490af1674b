use Rattle.std.proofs.Common.{◌≡◌, slice_get, take}
use Rattle.std.specs.Bool.{OnFalse}
use Rattle.ctutils.specs.Options.{into_option}
use Rattle.ctutils.proofs.search.ct_lookup.Given as goal

abbrev pub invariant-loop-i : goal.invariant-loop-i
invariant-loop-i g l =
    (into_option l.found ≡ slice_get (take l.i l.items) l.place)
    × OnFalse l.found.is_some (g.T.Default.is_default l.found.value)
