use Rattle.std.proofs.Common.{[], ◌∷◌, sym, ◌∙◌}
use Rattle.age_core.specs.private.Tags.{commands_of}
use Rattle.age_core.proofs.Commands.{ran_as, ran_idle, goes_to_a, goes_to_b, goes_to_c, goes_to_d, goes_nowhere}
use Rattle.age_core.proofs.plugin.unidir.take.Goals.{then-has_tag+in_ok-a, else-has_tag+then-has_tag-2+in_ok-b, else-has_tag+else-has_tag-2+then-is_for+in_ok-c, else-has_tag+else-has_tag-2+else-is_for+then-is_for-2+in_ok-d, else-has_tag+else-has_tag-2+else-is_for+else-is_for-2}
use Rattle.age_core.proofs.plugin.unidir.take.Goals as goal

pub returns-clause-a : goal.returns-clause-a
returns-clause-a g c f stanzas ran =
    elim c.if-has_tag.branch [
      | then-has_tag+in_ok-a w ↦
          let goes = goes_to_a (commands_of c.args.tags) c.args.stanza (sym c.has_tag.ensures ∙ w.if-has_tag.true) in
          ran_as _ f stanzas _ (c.args.stanza ∷ []) _ _ _ _ goes.to_a w.a-is w.on_a-is (w.in_ok-a.ensures f stanzas ran)
      | else-has_tag+then-has_tag-2+in_ok-b w ↦
          let goes = goes_to_b (commands_of c.args.tags) c.args.stanza (sym c.has_tag.ensures ∙ w.if-has_tag.false) (sym w.has_tag-else-has_tag.ensures ∙ w.if-has_tag-2.true) in
          ran_idle _ f stanzas _ _ _ _ _ goes.to_a w.a-is w.on_a-is ran
      | else-has_tag+else-has_tag-2+then-is_for+in_ok-c w ↦
          let goes = goes_to_c (commands_of c.args.tags) c.args.stanza (sym c.has_tag.ensures ∙ w.if-has_tag.false) (sym w.has_tag-else-has_tag.ensures ∙ w.if-has_tag-2.false) (sym w.is_for.ensures ∙ w.if-is_for.true) in
          ran_idle _ f stanzas _ _ _ _ _ goes.to_a w.a-is w.on_a-is ran
      | else-has_tag+else-has_tag-2+else-is_for+then-is_for-2+in_ok-d w ↦
          let goes = goes_to_d (commands_of c.args.tags) c.args.stanza (sym c.has_tag.ensures ∙ w.if-has_tag.false) (sym w.has_tag-else-has_tag.ensures ∙ w.if-has_tag-2.false) (sym w.is_for.ensures ∙ w.if-is_for.false) (sym w.is_for-else-is_for.ensures ∙ w.if-is_for-2.true) in
          ran_idle _ f stanzas _ _ _ _ _ goes.to_a w.a-is w.on_a-is ran
      | else-has_tag+else-has_tag-2+else-is_for+else-is_for-2 w ↦
          let goes = goes_nowhere (commands_of c.args.tags) c.args.stanza (sym c.has_tag.ensures ∙ w.if-has_tag.false) (sym w.has_tag-else-has_tag.ensures ∙ w.if-has_tag-2.false) (sym w.is_for.ensures ∙ w.if-is_for.false) (sym w.is_for-else-is_for.ensures ∙ w.if-is_for-2.false) in
          ran_idle _ f stanzas _ _ _ _ _ goes.to_a w.a-is w.on_a-is ran
    ]

pub returns-clause-b : goal.returns-clause-b
returns-clause-b g c f stanzas ran =
    elim c.if-has_tag.branch [
      | then-has_tag+in_ok-a w ↦
          let goes = goes_to_a (commands_of c.args.tags) c.args.stanza (sym c.has_tag.ensures ∙ w.if-has_tag.true) in
          ran_idle _ f stanzas _ _ _ _ _ goes.to_b w.b-is w.on_b-is ran
      | else-has_tag+then-has_tag-2+in_ok-b w ↦
          let goes = goes_to_b (commands_of c.args.tags) c.args.stanza (sym c.has_tag.ensures ∙ w.if-has_tag.false) (sym w.has_tag-else-has_tag.ensures ∙ w.if-has_tag-2.true) in
          ran_as _ f stanzas _ (c.args.stanza ∷ []) _ _ _ _ goes.to_b w.b-is w.on_b-is (w.in_ok-b.ensures f stanzas ran)
      | else-has_tag+else-has_tag-2+then-is_for+in_ok-c w ↦
          let goes = goes_to_c (commands_of c.args.tags) c.args.stanza (sym c.has_tag.ensures ∙ w.if-has_tag.false) (sym w.has_tag-else-has_tag.ensures ∙ w.if-has_tag-2.false) (sym w.is_for.ensures ∙ w.if-is_for.true) in
          ran_idle _ f stanzas _ _ _ _ _ goes.to_b w.b-is w.on_b-is ran
      | else-has_tag+else-has_tag-2+else-is_for+then-is_for-2+in_ok-d w ↦
          let goes = goes_to_d (commands_of c.args.tags) c.args.stanza (sym c.has_tag.ensures ∙ w.if-has_tag.false) (sym w.has_tag-else-has_tag.ensures ∙ w.if-has_tag-2.false) (sym w.is_for.ensures ∙ w.if-is_for.false) (sym w.is_for-else-is_for.ensures ∙ w.if-is_for-2.true) in
          ran_idle _ f stanzas _ _ _ _ _ goes.to_b w.b-is w.on_b-is ran
      | else-has_tag+else-has_tag-2+else-is_for+else-is_for-2 w ↦
          let goes = goes_nowhere (commands_of c.args.tags) c.args.stanza (sym c.has_tag.ensures ∙ w.if-has_tag.false) (sym w.has_tag-else-has_tag.ensures ∙ w.if-has_tag-2.false) (sym w.is_for.ensures ∙ w.if-is_for.false) (sym w.is_for-else-is_for.ensures ∙ w.if-is_for-2.false) in
          ran_idle _ f stanzas _ _ _ _ _ goes.to_b w.b-is w.on_b-is ran
    ]

pub returns-clause-c : goal.returns-clause-c
returns-clause-c g c f stanzas ran =
    elim c.if-has_tag.branch [
      | then-has_tag+in_ok-a w ↦
          let goes = goes_to_a (commands_of c.args.tags) c.args.stanza (sym c.has_tag.ensures ∙ w.if-has_tag.true) in
          ran_idle _ f stanzas _ _ _ _ _ goes.to_c w.c-is w.on_c-is ran
      | else-has_tag+then-has_tag-2+in_ok-b w ↦
          let goes = goes_to_b (commands_of c.args.tags) c.args.stanza (sym c.has_tag.ensures ∙ w.if-has_tag.false) (sym w.has_tag-else-has_tag.ensures ∙ w.if-has_tag-2.true) in
          ran_idle _ f stanzas _ _ _ _ _ goes.to_c w.c-is w.on_c-is ran
      | else-has_tag+else-has_tag-2+then-is_for+in_ok-c w ↦
          let goes = goes_to_c (commands_of c.args.tags) c.args.stanza (sym c.has_tag.ensures ∙ w.if-has_tag.false) (sym w.has_tag-else-has_tag.ensures ∙ w.if-has_tag-2.false) (sym w.is_for.ensures ∙ w.if-is_for.true) in
          ran_as _ f stanzas _ (c.args.stanza ∷ []) _ _ _ _ goes.to_c w.c-is w.on_c-is (w.in_ok-c.ensures f stanzas ran)
      | else-has_tag+else-has_tag-2+else-is_for+then-is_for-2+in_ok-d w ↦
          let goes = goes_to_d (commands_of c.args.tags) c.args.stanza (sym c.has_tag.ensures ∙ w.if-has_tag.false) (sym w.has_tag-else-has_tag.ensures ∙ w.if-has_tag-2.false) (sym w.is_for.ensures ∙ w.if-is_for.false) (sym w.is_for-else-is_for.ensures ∙ w.if-is_for-2.true) in
          ran_idle _ f stanzas _ _ _ _ _ goes.to_c w.c-is w.on_c-is ran
      | else-has_tag+else-has_tag-2+else-is_for+else-is_for-2 w ↦
          let goes = goes_nowhere (commands_of c.args.tags) c.args.stanza (sym c.has_tag.ensures ∙ w.if-has_tag.false) (sym w.has_tag-else-has_tag.ensures ∙ w.if-has_tag-2.false) (sym w.is_for.ensures ∙ w.if-is_for.false) (sym w.is_for-else-is_for.ensures ∙ w.if-is_for-2.false) in
          ran_idle _ f stanzas _ _ _ _ _ goes.to_c w.c-is w.on_c-is ran
    ]

pub returns-clause-d : goal.returns-clause-d
returns-clause-d g c f stanzas ran =
    elim c.if-has_tag.branch [
      | then-has_tag+in_ok-a w ↦
          let goes = goes_to_a (commands_of c.args.tags) c.args.stanza (sym c.has_tag.ensures ∙ w.if-has_tag.true) in
          ran_idle _ f stanzas _ _ _ _ _ goes.to_d w.d-is w.on_d-is ran
      | else-has_tag+then-has_tag-2+in_ok-b w ↦
          let goes = goes_to_b (commands_of c.args.tags) c.args.stanza (sym c.has_tag.ensures ∙ w.if-has_tag.false) (sym w.has_tag-else-has_tag.ensures ∙ w.if-has_tag-2.true) in
          ran_idle _ f stanzas _ _ _ _ _ goes.to_d w.d-is w.on_d-is ran
      | else-has_tag+else-has_tag-2+then-is_for+in_ok-c w ↦
          let goes = goes_to_c (commands_of c.args.tags) c.args.stanza (sym c.has_tag.ensures ∙ w.if-has_tag.false) (sym w.has_tag-else-has_tag.ensures ∙ w.if-has_tag-2.false) (sym w.is_for.ensures ∙ w.if-is_for.true) in
          ran_idle _ f stanzas _ _ _ _ _ goes.to_d w.d-is w.on_d-is ran
      | else-has_tag+else-has_tag-2+else-is_for+then-is_for-2+in_ok-d w ↦
          let goes = goes_to_d (commands_of c.args.tags) c.args.stanza (sym c.has_tag.ensures ∙ w.if-has_tag.false) (sym w.has_tag-else-has_tag.ensures ∙ w.if-has_tag-2.false) (sym w.is_for.ensures ∙ w.if-is_for.false) (sym w.is_for-else-is_for.ensures ∙ w.if-is_for-2.true) in
          ran_as _ f stanzas _ (c.args.stanza ∷ []) _ _ _ _ goes.to_d w.d-is w.on_d-is (w.in_ok-d.ensures f stanzas ran)
      | else-has_tag+else-has_tag-2+else-is_for+else-is_for-2 w ↦
          let goes = goes_nowhere (commands_of c.args.tags) c.args.stanza (sym c.has_tag.ensures ∙ w.if-has_tag.false) (sym w.has_tag-else-has_tag.ensures ∙ w.if-has_tag-2.false) (sym w.is_for.ensures ∙ w.if-is_for.false) (sym w.is_for-else-is_for.ensures ∙ w.if-is_for-2.false) in
          ran_idle _ f stanzas _ _ _ _ _ goes.to_d w.d-is w.on_d-is ran
    ]
