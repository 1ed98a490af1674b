use Rattle.std.proofs.Common.{◌≡◌, Bool, find, take}
use Rattle.std.specs.Bool.{OnFalse}
use Rattle.ctutils.specs.Options.{into_option}
use Rattle.ctutils.specs.Search.{Accepts}
use Rattle.ctutils.proofs.search.ct_find.Given as goal

abbrev pub invariant-loop-item : goal.invariant-loop-item
invariant-loop-item g l =
    ((accepts : _ → Bool) → Accepts g.P.Fn l.predicate accepts → into_option l.found ≡ find accepts (take l.item-index l.items))
    × OnFalse l.found.is_some (g.T.Default.is_default l.found.value)
