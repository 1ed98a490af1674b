use Rattle.std.proofs.Common.{◌∙◌, ap}
use Rattle.lattice_transform.specs.private.Rows.{shuffled}
use Rattle.lattice_transform.proofs.Across.{four-shuffles}
use Rattle.lattice_transform.proofs.arrays.turn_over.Goals as goal

pub returns : goal.returns
returns c =
    c.shuffle-4.ensures ∙ ap shuffled (c.shuffle-3.ensures ∙ ap shuffled (c.shuffle-2.ensures ∙ ap shuffled c.shuffle.ensures)) ∙ four-shuffles c.args.rows.now
