use Rattle.std.proofs.Common.{◌∙◌, refl, arith}
use Rattle.std.specs.Simd.Lanes.{zip2}
use Rattle.module_lattice.specs.Pairs.{pair_products}
use Rattle.module_lattice.proofs.Products.{length-pair_products}
use Rattle.module_lattice.proofs.Vectors.{zipped_at}
use Rattle.module_lattice.proofs.Totals.{total-none, total_more, total_all}
use Rattle.module_lattice.proofs.multiply_ntt.BaseFieldMultiplyNtt.dot.Goals as goal

pub loop-i-init : goal.loop-i-init
loop-i-init c = c.default-sums.ensures ∙ total-none 3329

pub loop-i-preserved : goal.loop-i-preserved
loop-i-preserved c =
    total_more 3329 (zip2 pair_products c.args.lhs.now c.args.rhs.now) c.loop-i.i _ (pair_products c.index-lhs-i.result c.index-rhs-i.result) _
    (zipped_at pair_products c.args.lhs.now c.args.rhs.now c.loop-i.i _ _ (pair_products c.index-lhs-i.result c.index-rhs-i.result)
    (omega arith) c.requires c.index-lhs-i.is c.index-rhs-i.is refl)
    (length-pair_products c.index-lhs-i.result c.index-rhs-i.result) c.loop-i.invariant c.add_product.ensures

pub returns : goal.returns
returns c = c.reduce.ensures ∙ total_all 3329 pair_products c.args.lhs.now c.args.lhs.now c.args.rhs.now c.args.rhs.now c.loop-i.i c.loop-i.sums
    refl refl c.requires (omega arith) c.loop-i.invariant
