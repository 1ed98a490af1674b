use Rattle.std.proofs.Common.{◌∙◌}
use Rattle.module_lattice.proofs.Products.{slice_index-GAMMAS, slice_index-GAMMAS-below}
use Rattle.module_lattice.proofs.multiply_ntt.gamma.Goals as goal

pub new-requires : goal.new-requires
new-requires c = slice_index-GAMMAS-below c.args.i c.requires

pub returns : goal.returns
returns c = c.new.ensures ∙ slice_index-GAMMAS c.args.i c.requires
