use Rattle.lattice_transform.proofs.Quotients.{left-below, turned-is}
use Rattle.lattice_transform.proofs.arrays.turned.Goals as goal

pub reduced-requires : goal.reduced-requires
reduced-requires c =
    left-below c.args.zeta c.args.quotient c.args.b c.from.result c.from-2.result c.requires.zeta c.ranges.b.fits c.requires.quotient c.from.ensures c.from-2.ensures

pub returns : goal.returns
returns c =
    turned-is c.args.zeta c.args.quotient c.args.b c.from.result c.from-2.result c.reduced.result c.requires.zeta c.ranges.b.fits c.requires.quotient c.from.ensures
    c.from-2.ensures c.reduced.ensures
