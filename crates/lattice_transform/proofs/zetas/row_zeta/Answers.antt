use Rattle.lattice_transform.proofs.ZetaTable.{row-zeta-at, row-zeta-below}
use Rattle.lattice_transform.proofs.zetas.row_zeta.Goals as goal

pub returns : goal.returns
returns c = record { value = row-zeta-at c.args.place c.requires; below = row-zeta-below c.args.place c.requires }
