use Rattle.std.proofs.Common.{◌∙◌}
use Rattle.dsa_ring.proofs.ZetaTable.{zeta-at, zeta-below}
use Rattle.dsa_ring.proofs.zetas.zeta.Goals as goal

pub new-requires : goal.new-requires
new-requires c = zeta-below c.args.k c.requires

pub returns : goal.returns
returns c = c.new.ensures ∙ zeta-at c.args.k c.requires
