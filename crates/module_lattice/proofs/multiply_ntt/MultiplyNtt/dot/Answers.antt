use Rattle.std.proofs.Common.{rules, ◌∙◌, refl}
use Rattle.std.specs.Simd.Lanes.{zip2}
use Rattle.module_lattice.proofs.Vectors.{zipped_at}
use Rattle.module_lattice.proofs.Totals.{total-none, total_more, total_all}
use Rattle.module_lattice.proofs.multiply_ntt.MultiplyNtt.dot.Goals as goal

pub loop-i-init : goal.loop-i-init
loop-i-init g c = c.default-sum.ensures ∙ total-none g.Self.Field.Q

pub loop-i-preserved : goal.loop-i-preserved
loop-i-preserved g c =
    total_more g.Self.Field.Q (zip2 g.Self.MultiplyNtt.product_of c.args.lhs.now c.args.rhs.now) c.loop-i.i _ c.multiply_ntt.result _
    (zipped_at g.Self.MultiplyNtt.product_of c.args.lhs.now c.args.rhs.now c.loop-i.i _ _ c.multiply_ntt.result
    (search rules) c.requires c.index-lhs-i.is c.index-rhs-i.is c.multiply_ntt.ensures)
    c.add_assign.ensures.polynomial.size c.loop-i.invariant c.add_assign.ensures.value

pub returns : goal.returns
returns g c = total_all g.Self.Field.Q g.Self.MultiplyNtt.product_of c.args.lhs.now c.args.lhs.now c.args.rhs.now c.args.rhs.now c.loop-i.i c.loop-i.sum
    refl refl c.requires (search rules) c.loop-i.invariant
