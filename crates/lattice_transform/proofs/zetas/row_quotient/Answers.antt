use Rattle.lattice_transform.proofs.ZetaTable.{row-quotient-at}
use Rattle.lattice_transform.proofs.zetas.row_quotient.Goals as goal

pub returns : goal.returns
returns c = row-quotient-at c.args.place c.requires
