use Rattle.std.proofs.Common.{slice_set, ap₂, ◌∙◌, arith}
use Rattle.lattice_transform.proofs.Quotients.{turned-difference}
use Rattle.lattice_transform.proofs.arrays.inverse_butterfly.Goals as goal

pub returns-clause-value : goal.returns-clause-value
returns-clause-value c =
    ap₂ (λ x y. slice_set (slice_set c.args.values.now c.args.i x) c.args.j y) c.reduced.ensures
    (c.turned.ensures
    ∙ turned-difference c.args.zeta _ _ (c.requires.polynomial.each c.args.i 0 (omega (arith, c.requires.first, c.requires.polynomial.size))))
