use Rattle.module_lattice.specs.Pairs.{reduced_pair}
use Rattle.module_lattice.proofs.Products.{Paired}
use Rattle.module_lattice.proofs.product_sums.ProductSums.reduce.Given as goal

abbrev pub invariant-loop-i : goal.invariant-loop-i
invariant-loop-i l = Paired (reduced_pair l.self-inside.constants l.self-inside.linears l.self-inside.squares) l.i l.out
