use Rattle.ctutils.proofs.Orderings.{selected_place-below, at-selected_place}
use Rattle.ctutils.proofs.ct_select.OrderingCtSelect.ct_select.Goals as goal

pub bounds-place-place : goal.bounds-place-place
bounds-place-place c = selected_place-below c.args.choice c.args.self.now c.args.other.now c.ct_select-place.result (cc)

pub returns : goal.returns
returns c = at-selected_place c.args.choice c.args.self.now c.args.other.now c.ct_select-place.result (cc)
