use Rattle.std.proofs.Common.{◌∙◌, refl, rules}
use Rattle.module_lattice.specs.Pairs.{reduced_pair, reduced_pairs}
use Rattle.module_lattice.proofs.Products.{next_pair, none_paired, all_paired, below_of_paired}
use Rattle.module_lattice.proofs.Sums.{All-reduced_pair}
use Rattle.module_lattice.proofs.product_sums.ProductSums.reduce.Goals as goal

pub loop-i-init : goal.loop-i-init
loop-i-init c = none_paired (reduced_pair c.self.inside.constants c.self.inside.linears c.self.inside.squares)

pub loop-i-preserved : goal.loop-i-preserved
loop-i-preserved c =
    next_pair (reduced_pair c.self.inside.constants c.self.inside.linears c.self.inside.squares) _ _ c.loop-i.i _ _ (search rules)
    c.reduced_pair-pair.ensures refl c.loop-i.invariant

pub new-requires : goal.new-requires
new-requires c =
    below_of_paired (reduced_pair c.self.inside.constants c.self.inside.linears c.self.inside.squares) c.loop-i.i c.loop-i.out
    (All-reduced_pair c.self.inside.constants c.self.inside.linears c.self.inside.squares) (search rules) (search rules) c.loop-i.invariant

pub returns : goal.returns
unfolding reduced_pairs
returns c =
    c.new.ensures
    ∙ all_paired (reduced_pair c.self.inside.constants c.self.inside.linears c.self.inside.squares) c.loop-i.i c.loop-i.out (search rules) (search rules) c.loop-i.invariant
    ∙ c.self.view_is
