use Rattle.std.proofs.Common.{◌∙◌, refl, rules}
use Rattle.module_lattice.specs.Pairs.{pair_product}
use Rattle.module_lattice.specs.private.PairLaws.{All-pair_product}
use Rattle.module_lattice.proofs.Products.{next_pair, none_paired, all_multiplied, below_of_paired}
use Rattle.module_lattice.proofs.multiply_ntt.BaseFieldMultiplyNtt.multiply_ntt.Goals as goal

pub loop-i-init : goal.loop-i-init
loop-i-init c = none_paired (pair_product c.args.lhs.now c.args.rhs.now)

pub loop-i-preserved : goal.loop-i-preserved
loop-i-preserved c = next_pair (pair_product c.args.lhs.now c.args.rhs.now) _ _ c.loop-i.i _ _ (search rules) c.pair_product-pair.ensures.value refl c.loop-i.invariant

pub new-requires : goal.new-requires
new-requires c =
    below_of_paired (pair_product c.args.lhs.now c.args.rhs.now) c.loop-i.i c.loop-i.out (All-pair_product c.args.lhs.now c.args.rhs.now)
    (search rules) (search rules) c.loop-i.invariant

pub returns : goal.returns
returns c = c.new.ensures ∙ all_multiplied c.args.lhs.now c.args.rhs.now c.loop-i.i c.loop-i.out (search rules) (search rules) c.loop-i.invariant
