use Rattle.std.proofs.Common.{refl, ap, ◌∙◌, ◌&&◌, if◌then◌else◌, rules}
use Rattle.ctutils.specs.Options.{some_of}
use Rattle.ctutils.proofs.Searching.{find-take-more, OnFalse-step}
use Rattle.ctutils.proofs.search.ct_find.Goals as goal

pub loop-item-preserved : goal.loop-item-preserved
loop-item-preserved g c = (
  λ accepts answers.
      find-take-more accepts c.predicate.result c.loop-item.found c.insert_if.new.self c.args.items.now c.loop-item.item-index c.item-item.result
      (search rules) c.item-item.is (c.loop-item.invariant.0 accepts answers)
      (answers c.item-item.result c.predicate.result (record { shown = _; shows = refl; says = record { met = c.predicate.ensures } }))
      (c.insert_if.ensures ∙ ap (λ b. if b then some_of c.item-item.result else c.loop-item.found) (c.and-is_first.ensures ∙ ap (λ b. c.predicate.result && b) c.is_none.ensures)),
  OnFalse-step g.T.Default.is_default c.and-is_first.result c.loop-item.found c.insert_if.new.self c.item-item.result c.loop-item.invariant.1 c.insert_if.ensures,
)
